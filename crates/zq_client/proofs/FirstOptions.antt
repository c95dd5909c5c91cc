-- An option that stands first, and the words behind it.

use Rattle.std.proofs.Common.{Bool, List, None, Some, [], ap, arith, codes, cond, drop, false, get_or, length, length-drop, refl, sym, take, true, ℕ, ◌-◌, ◌∙◌, ◌∷◌, ◌≡◌, ◌≤◌}
use Rattle.std.proofs.lemmas.List.{take_all}
use Rattle.std.specs.declared.alloc.Global.{Global}
use Rattle.std.specs.declared.vec.Vec.{Vec}
use Rattle.zq_client.specs.Options.{Asks, is_auth, is_setname, options_from, with_entry, with_name}
use Rattle.zq_words.specs.Words.{Word, is, views}

-- what stands from a place on
pub rest_of : {X : Type 0} (xs : List X) (n : ℕ) → take (length xs - n) (drop n xs) ≡ drop n xs
rest_of xs n = take_all (length xs - n) (drop n xs) (omega (arith, length-drop n xs))

chosen : {X : Type 0} (b : Bool) (x y : X) → b ≡ true → cond b x y ≡ x
chosen true x y e = refl
chosen false x y e = cc

refused : {X : Type 0} (b : Bool) (x y : X) → b ≡ false → cond b x y ≡ y
refused true x y e = cc
refused false x y e = refl

pub entry_first : (asks : Asks) (words : List (Vec ℕ Global)) (user text : Vec ℕ Global) (u t : Word) → is_auth (views words) ≡ true → user ≡ get_or words 1 user → text ≡ get_or words 2 text → u ≡ user.items → t ≡ text.items →
    options_from asks (views words) ≡ options_from (with_entry asks u t) (views (drop 3 words))
entry_first asks [] user text u t auth at1 at2 is_u is_t = cc
entry_first asks (a ∷ []) user text u t auth at1 at2 is_u is_t = cc
entry_first asks (a ∷ b ∷ []) user text u t auth at1 at2 is_u is_t = cc
entry_first asks (a ∷ b ∷ c ∷ words) user text u t auth at1 at2 is_u is_t =
    let of_user : b.items ≡ u = ap (λ (w : Vec ℕ Global). w.items) (sym at1) ∙ sym is_u in
    let of_text : c.items ≡ t = ap (λ (w : Vec ℕ Global). w.items) (sym at2) ∙ sym is_t in
    chosen (is a.items (codes "AUTH")) _ _ auth ∙ ap (λ p. options_from (with_entry asks p c.items) (views words)) of_user ∙ ap (λ q. options_from (with_entry asks u q) (views words)) of_text

pub name_first : (asks : Asks) (words : List (Vec ℕ Global)) (name : Vec ℕ Global) (n : Word) → is_auth (views words) ≡ false → is_setname (views words) ≡ true → name ≡ get_or words 1 name → n ≡ name.items →
    options_from asks (views words) ≡ options_from (with_name asks n) (views (drop 2 words))
name_first asks [] name n auth set at1 is_n = cc
name_first asks (a ∷ []) name n auth set at1 is_n = cc
name_first asks (a ∷ b ∷ []) name n auth set at1 is_n =
    let of_name : b.items ≡ n = ap (λ (w : Vec ℕ Global). w.items) (sym at1) ∙ sym is_n in
    chosen (is a.items (codes "SETNAME")) _ _ set ∙ ap (λ p. Some (with_name asks p)) of_name
name_first asks (a ∷ b ∷ c ∷ words) name n auth set at1 is_n =
    let of_name : b.items ≡ n = ap (λ (w : Vec ℕ Global). w.items) (sym at1) ∙ sym is_n in
    refused (is a.items (codes "AUTH")) _ _ auth ∙ chosen (is a.items (codes "SETNAME")) _ _ set ∙ ap (λ p. options_from (with_name asks p) (views (c ∷ words))) of_name

pub none_first : (asks : Asks) (words : List (Vec ℕ Global)) → 1 ≤ length words → is_auth (views words) ≡ false → is_setname (views words) ≡ false → options_from asks (views words) ≡ None
none_first asks [] one auth set = absurd (omega (arith, one))
none_first asks (a ∷ []) one auth set = refl
none_first asks (a ∷ b ∷ []) one auth set = refused (is a.items (codes "SETNAME")) _ _ set
none_first asks (a ∷ b ∷ c ∷ words) one auth set = refused (is a.items (codes "AUTH")) _ _ auth ∙ refused (is a.items (codes "SETNAME")) _ _ set

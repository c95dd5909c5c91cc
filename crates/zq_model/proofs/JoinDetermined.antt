-- The join of two sound images is determined by what stands in it.

use Rattle.std.proofs.Common.{ℕ, suc, [], ◌∷◌, arith, ◌<◌, ◌≡◌, true, false, List, get_or, length, Option, Some, None, refl, sym, ap, ◌∙◌, subst, inl, inr}
use Rattle.std.specs.Prelude.{is_none, pos, slice_index, unwrap_or}
use Rattle.std.specs.FinMap.{get, same_map}
use Rattle.std.proofs.lemmas.Bool.{and_from, cases_lt}
use Rattle.std.proofs.lemmas.List.{ext_get_or}
use Rattle.zq_model.specs.Entry.{Addition}
use Rattle.zq_model.specs.Image.{Entry, Image, addition_at, is_bare, join, no_additions}
use Rattle.zq_model.specs.Joining.{HasAddition, IsJoined, IsJoinOf, IsKnown, IsSound}
use Rattle.zq_model.specs.Sets.{SITES}
use Rattle.zq_model.proofs.Entries.{addition_at-no_additions, join_entries}
use Rattle.zq_model.proofs.Maps.{place_exact, place_total}
use Rattle.zq_model.proofs.Sites.{length-by_site}
use Rattle.zq_model.proofs.JoinKeeps.{join_both, join_first, join_second, join_stands, join_vector_at}

-- two lists with a place for each site are one where they agree at these places
same_by_site : {X : Type 0} (d : X) (xs ys : List X) → length xs ≡ SITES → length ys ≡ SITES → ((s : ℕ) → s < SITES → get_or xs s d ≡ get_or ys s d) → xs ≡ ys
same_by_site d xs ys p q h = ext_get_or d xs ys (p ∙ sym q) (λ i k. h i (omega arith))

is_none_of : {X : Type 0} (x : Option X) → x ≡ None → is_none x ≡ true
is_none_of None h = refl
is_none_of (Some x) h = cc

-- an entry without an addition is bare
bare_from : (e : Entry) → ((s : ℕ) → addition_at e s ≡ None) → is_bare e ≡ true
bare_from [] h = refl
bare_from (x ∷ e) h = and_from _ _ (is_none_of x (h 0)) (bare_from e (λ s. h (suc s)))

same_addition : (x y : Addition) → x.n ≡ y.n → x.score ≡ y.score → x.sums ≡ y.sums → x ≡ y
same_addition x y n score sums = λ i. record { n = n i; score = score i; sums = sums i }

-- two sides' addition is one
joined_once : (u v : List ℕ) (x y z w : Addition) → IsJoined u v x y z → IsJoined u v x y w → z ≡ w
joined_once u v x y z w p q =
    same_addition z w (p.n ∙ sym q.n) (p.score ∙ sym q.score)
    (same_by_site (pos 0) z.sums w.sums p.wide q.wide (λ t h. elim (cases_lt (slice_index u t) (slice_index v t)) [
      | inl l ↦ p.theirs t h l ∙ sym (q.theirs t h l)
      | inr l ↦ p.mine t h l ∙ sym (q.mine t h l)
    ]))

-- an entry is known by its additions, where it has a place for each site and is not bare
same_entry : (d e : Option Entry) → ((x : Entry) → d ≡ Some x → (length x ≡ SITES) × (is_bare x ≡ false)) → ((x : Entry) → e ≡ Some x → (length x ≡ SITES) × (is_bare x ≡ false))
    → ((s : ℕ) → addition_at (unwrap_or d no_additions) s ≡ addition_at (unwrap_or e no_additions) s) → d ≡ e
same_entry None None p q h = refl
same_entry None (Some e) p q h = let b = bare_from e (λ s. sym (h s) ∙ addition_at-no_additions s) in let n = (q e refl).1 in cc
same_entry (Some d) None p q h = let b = bare_from d (λ s. h s ∙ addition_at-no_additions s) in let n = (p d refl).1 in cc
same_entry (Some d) (Some e) p q h = ap Some (same_by_site None d e (p d refl).0 (q e refl).0 (λ s _. h s))

-- an option is known by what it gives
pub same_option : {X : Type 0} (o r : Option X) → ((x : X) → o ≡ Some x → r ≡ Some x) → ((x : X) → r ≡ Some x → o ≡ Some x) → o ≡ r
same_option None None f g = refl
same_option None (Some x) f g = g x refl
same_option (Some x) r f g = sym (f x refl)

module _ (a b : Image) where
  -- what one join has, another has
  has_too : (c d : Image) → IsJoinOf a b c → IsJoinOf a b d → (k m : List ℕ) (s : ℕ) (z : Addition) → HasAddition c k m s z → HasAddition d k m s z
  has_too c d p q k m s z h = elim ((p.stands k m s z.n).0 (z, h, refl)) [
    | inl f ↦
        let x = f.0 in
        let y = f.1 in
        let e : x.0.n ≡ y.0.n = x.2 ∙ sym y.2 in
        let w = (q.stands k m s z.n).1 (inl f) in
        let same : w.0 ≡ z = joined_once a.vector b.vector x.0 y.0 w.0 z (q.both k m s x.0 y.0 w.0 x.1 y.1 e w.1) (p.both k m s x.0 y.0 z x.1 y.1 e h) in
        subst (HasAddition d k m s) same w.1
    | inr (inl f) ↦
        let x = f.0 in
        let alone = λ (i : IsKnown b.vector s x.0.n). f.1 (subst (IsKnown b.vector s) x.2 i) in
        q.first k m s x.0 x.1 alone ∙ sym (p.first k m s x.0 x.1 alone) ∙ h
    | inr (inr f) ↦
        let y = f.0 in
        let alone = λ (i : IsKnown a.vector s y.0.n). f.1 (subst (IsKnown a.vector s) y.2 i) in
        q.second k m s y.0 y.1 alone ∙ sym (p.second k m s y.0 y.1 alone) ∙ h
  ]

  same_members : (c d : Image) → IsJoinOf a b c → IsJoinOf a b d → c.members ≡ d.members
  same_members c d p q = same_map place_total place_exact c.members d.members (λ r.
      same_entry (get c.members r) (get d.members r) (p.entries r.0 r.1) (q.entries r.0 r.1)
      (λ s. same_option _ _ (λ x. has_too c d p q r.0 r.1 s x) (λ x. has_too d c q p r.0 r.1 s x)))

  pub join_of_one : (c d : Image) → IsJoinOf a b c → IsJoinOf a b d → c ≡ d
  join_of_one c d p q =
      let v = same_by_site 0 c.vector d.vector p.wide q.wide (λ t h. p.vector t h ∙ sym (q.vector t h)) in
      let m = same_members c d p q in
      λ i. record { vector = v i; members = m i }

  pub join_is : IsSound a → IsSound b → IsJoinOf a b (join a b)
  join_is p q = record {
    wide = length-by_site _;
    vector = join_vector_at a b;
    stands = λ k m s n. join_stands a b k m s n p q;
    both = join_both a b;
    first = λ k m s x. join_first a b k m s x p q;
    second = λ k m s y. join_second a b k m s y p q;
    entries = join_entries a b;
  }

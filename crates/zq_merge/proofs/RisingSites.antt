-- Values by rising site, with one more at the end.

use Rattle.std.proofs.Common.{ap, arith, cond, false, refl, List, None, Some, sym, true, [], ℕ, ◌+◌, ◌++◌, ◌<◌, ◌==◌, ◌≤◌, ◌∙◌, ◌∷◌, ◌≡◌, ◌≢◌, eq-eqb, ne_eqb}
use Rattle.std.proofs.lemmas.Bool.{cond-false, cond-true}
use Rattle.std.proofs.lemmas.List.Sums.{fold-append}
use Rattle.std.specs.List.{AllByRecursion}
use Rattle.zq_merge.specs.Reading.{next_site}
use Rattle.zq_model.specs.Sparse.{AreBySite, found}

pub next_more : {X : Type 0} (items : List (ℕ × X)) (p : ℕ × X) → next_site (items ++ p ∷ []) ≡ p.0 + 1
next_more items p = fold-append (λ low q. q.0 + 1) 0 items (p ∷ [])

pub rising_more : {X : Type 0} (a low s : ℕ) (x : X) (items : List (ℕ × X)) → a ≤ low → low ≤ s → AreBySite a low items → AreBySite a (s + 1) (items ++ (s, x) ∷ [])
rising_more a low s x [] from below r = (omega arith, omega arith, tt)
rising_more a low s x (p ∷ items) from below r =
    let last : p.0 < low = r.1 in
    (r.0, omega arith, rising_more (p.0 + 1) low s x items (omega arith) below r.2)

pub rising_wider : {X : Type 0} (a low high : ℕ) (items : List (ℕ × X)) → low ≤ high → AreBySite a low items → AreBySite a high items
rising_wider a low high [] within r = tt
rising_wider a low high (p ∷ items) within r =
    let last : p.0 < low = r.1 in
    (r.0, omega arith, rising_wider (p.0 + 1) low high items within r.2)

-- what stands behind a site of the list is above it
pub found_last : {X : Type 0} (a low s : ℕ) (x : X) (items : List (ℕ × X)) → low ≤ s → AreBySite a low items → found s (items ++ (s, x) ∷ []) ≡ Some x
found_last a low s x [] below r = cond-true (s == s) _ _ (eq-eqb s s refl)
found_last a low s x (p ∷ items) below r =
    let last : p.0 < low = r.1 in
    cond-false (p.0 == s) _ _ (ne_eqb p.0 s (λ e. absurd (omega arith))) ∙ found_last (p.0 + 1) low s x items below r.2

pub found_other : {X : Type 0} (t s : ℕ) (x : X) (items : List (ℕ × X)) → t ≢ s → found t (items ++ (s, x) ∷ []) ≡ found t items
found_other t s x [] other = cond-false (s == t) _ _ (ne_eqb s t (λ e. other (sym e)))
found_other t s x (p ∷ items) other = ap (λ o. cond (p.0 == t) (Some p.1) o) (found_other t s x items other)

-- no value stands at a site past the last
pub found_past : {X : Type 0} (a high t : ℕ) (items : List (ℕ × X)) → high ≤ t → AreBySite a high items → found t items ≡ None
found_past a high t [] past r = refl
found_past a high t (p ∷ items) past r =
    let last : p.0 < high = r.1 in
    cond-false (p.0 == t) _ _ (ne_eqb p.0 t (λ e. absurd (omega arith))) ∙ found_past (p.0 + 1) high t items past r.2

pub each_more : {X : Type 0} (P : X → Type 0) (items : List X) (x : X) → AllByRecursion P items → P x → AllByRecursion P (items ++ x ∷ [])
each_more P [] x each here = (here, tt)
each_more P (y ∷ items) x each here = (each.0, each_more P items x each.1 here)

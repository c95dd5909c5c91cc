-- An entry and its additions by rising site: either gives the other back.

use Rattle.std.proofs.Common.{List, None, Option, Some, [], ap, ap₂, arith, eq-eqb, false, inl, inr, le_refl, length, map, ne_eqb, refl, suc, sym, zero, ℕ, ◌+◌, ◌<◌, ◌==◌, ◌∙◌, ◌∷◌, ◌≡◌, ◌≢◌, ◌≤◌}
use Rattle.std.proofs.lemmas.Bool.{cases_eq, cond-false, cond-true, false_from_ne_true}
use Rattle.std.proofs.lemmas.Option.{none-some, same_Some}
use Rattle.std.specs.List.{range_with_len}
use Rattle.zq_model.proofs.Entries.{none_at}
use Rattle.zq_model.proofs.Sites.{by_site-at, by_site_from}
use Rattle.zq_model.specs.Entry.{Addition}
use Rattle.zq_model.specs.Image.{Entry, addition_at, is_bare}
use Rattle.zq_model.specs.Rows.{OfSite, additions_from, entry_with}
use Rattle.zq_model.specs.Sets.{IsIn, SITES}
use Rattle.zq_model.specs.Sparse.{AreBySite, found}

-- ---- values by rising site

-- a site below the first has no value
pub found_below : {X : Type 0} (s low high : ℕ) (items : List (ℕ × X)) → AreBySite low high items → s < low → found s items ≡ None
found_below s low high [] rising below = refl
found_below s low high (p ∷ items) rising below =
    let first : low ≤ p.0 = rising.0 in
    cond-false (p.0 == s) _ _ (ne_eqb p.0 s (λ e. absurd (omega arith))) ∙ found_below s (p.0 + 1) high items rising.2 (omega arith)

pub from_lower : {X : Type 0} (low more high : ℕ) (items : List (ℕ × X)) → low ≤ more → AreBySite more high items → AreBySite low high items
from_lower low more high [] le rising = tt
from_lower low more high (p ∷ items) le rising = (let first : more ≤ p.0 = rising.0 in omega arith, rising.1, rising.2)

-- a site of the list is no lower than the first
site_above : {X : Type 0} (low high : ℕ) (items : List (ℕ × X)) (p : ℕ × X) → AreBySite low high items → IsIn p items → low ≤ p.0
site_above low high [] p rising i = absurd i
site_above low high (q ∷ items) p rising (inl same) = let first : low ≤ q.0 = rising.0 in let e : q.0 ≡ p.0 = ap (λ z. z.0) same in omega arith
site_above low high (q ∷ items) p rising (inr later) =
    let first : low ≤ q.0 = rising.0 in let more : q.0 + 1 ≤ p.0 = site_above (q.0 + 1) high items p rising.2 later in omega arith

-- the value of a site is the one that stands beside it
pub found_in : {X : Type 0} (low high : ℕ) (items : List (ℕ × X)) (s : ℕ) (x : X) → AreBySite low high items → IsIn (s, x) items → found s items ≡ Some x
found_in low high [] s x rising i = absurd i
found_in low high (p ∷ items) s x rising (inl same) = cond-true (p.0 == s) _ _ (eq-eqb p.0 s (ap (λ z. z.0) same)) ∙ ap (λ z. Some z.1) same
found_in low high (p ∷ items) s x rising (inr later) =
    let above : p.0 + 1 ≤ s = site_above (p.0 + 1) high items (s, x) rising.2 later in
    cond-false (p.0 == s) _ _ (ne_eqb p.0 s (λ e. absurd (omega arith))) ∙ found_in (p.0 + 1) high items s x rising.2 later

-- ---- an entry's additions

pub additions_by_site : (s high : ℕ) (e : Entry) → high ≡ s + length e → AreBySite s high (additions_from s e)
additions_by_site s high [] is = tt
additions_by_site s high (None ∷ e) is = from_lower s (s + 1) high (additions_from (s + 1) e) (omega arith) (additions_by_site (s + 1) high e (omega arith))
additions_by_site s high (Some a ∷ e) is = (le_refl s, omega arith, additions_by_site (s + 1) high e (omega arith))

pub found_at : (s t i : ℕ) (e : Entry) → s ≡ t + i → found s (additions_from t e) ≡ addition_at e i
found_at s t i [] is = refl
found_at s t zero (None ∷ e) is = found_below s (t + 1) _ (additions_from (t + 1) e) (additions_by_site (t + 1) _ e refl) (omega arith)
found_at s t (suc i) (None ∷ e) is = found_at s (t + 1) i e (omega arith)
found_at s t zero (Some a ∷ e) is = cond-true (t == s) _ _ (eq-eqb t s (omega arith))
found_at s t (suc i) (Some a ∷ e) is = cond-false (t == s) _ _ (ne_eqb t s (λ f. absurd (omega arith))) ∙ found_at s (t + 1) i e (omega arith)

-- an addition of the entry stands in the list
pub addition_listed : (s t i : ℕ) (e : Entry) (x : Addition) → s ≡ t + i → addition_at e i ≡ Some x → IsIn (s, x) (additions_from t e)
addition_listed s t i [] x is has = absurd (none-some x has)
addition_listed s t zero (None ∷ e) x is has = absurd (none-some x has)
addition_listed s t (suc i) (None ∷ e) x is has = addition_listed s (t + 1) i e x (omega arith) has
addition_listed s t zero (Some a ∷ e) x is has = let same : t ≡ s = omega arith in inl (λ i. (same i, same_Some a x has i))
addition_listed s t (suc i) (Some a ∷ e) x is has = inr (addition_listed s (t + 1) i e x (omega arith) has)

-- an entry that is not bare has an addition
pub some_listed : (s : ℕ) (e : Entry) → is_bare e ≡ false → additions_from s e ≢ []
some_listed s [] some none = cc
some_listed s (None ∷ e) some none = some_listed (s + 1) e some none
some_listed s (Some a ∷ e) some none = cc

-- the additions give the entry back
pub entry_back : (e : Entry) → length e ≡ SITES → entry_with (additions_from 0 e) ≡ e
entry_back e wide = sym (by_site_from (λ s. found s (additions_from 0 e)) e None wide (λ s _. sym (found_at s 0 s e (omega arith))))

-- ---- the entry of some additions

additions_of_range : (f : ℕ → Option Addition) (a n high : ℕ) (items : List OfSite) → high ≡ a + n → AreBySite a high items →
    ((s : ℕ) → a ≤ s → f s ≡ found s items) → additions_from a (map f (range_with_len a n)) ≡ items
additions_of_range f a zero high [] is rising each = refl
additions_of_range f a zero high (p ∷ items) is rising each =
    let low : a ≤ p.0 = rising.0 in let below : p.0 < high = rising.1 in absurd (omega arith)
additions_of_range f a (suc n) high [] is rising each =
    ap (λ x. additions_from a (x ∷ map f (range_with_len (a + 1) n))) (each a (le_refl a))
    ∙ additions_of_range f (a + 1) n high [] (omega arith) tt (λ s low. each s (omega arith))
additions_of_range f a (suc n) high (p ∷ items) is rising each =
    let low : a ≤ p.0 = rising.0 in
    elim (cases_eq p.0 a) [
      | inl same ↦
          ap (λ x. additions_from a (x ∷ map f (range_with_len (a + 1) n))) (each a (le_refl a) ∙ cond-true (p.0 == a) _ _ (eq-eqb p.0 a same))
          ∙ ap₂ (λ s xs. (s, p.1) ∷ xs) (sym same)
          (additions_of_range f (a + 1) n high items (omega arith) (from_lower (a + 1) (p.0 + 1) high items (omega arith) rising.2)
          (λ s more. each s (omega arith) ∙ cond-false (p.0 == s) _ _ (ne_eqb p.0 s (λ e. absurd (omega arith)))))
      | inr apart ↦
          let above : a + 1 ≤ p.0 = omega (arith, apart) in
          let rest : AreBySite (a + 1) high (p ∷ items) = (above, rising.1, rising.2) in
          ap (λ x. additions_from a (x ∷ map f (range_with_len (a + 1) n))) (each a (le_refl a) ∙ found_below a (a + 1) high (p ∷ items) rest (omega arith))
          ∙ additions_of_range f (a + 1) n high (p ∷ items) (omega arith) rest (λ s more. each s (omega arith))
    ]

-- the entry gives the additions back
pub additions_back : (items : List OfSite) → AreBySite 0 SITES items → additions_from 0 (entry_with items) ≡ items
additions_back items rising = additions_of_range (λ s. found s items) 0 SITES SITES items (omega arith) rising (λ s _. refl)

pub entry_some : (items : List OfSite) → AreBySite 0 SITES items → items ≢ [] → is_bare (entry_with items) ≡ false
entry_some [] rising some = absurd (some refl)
entry_some (p ∷ items) rising some = false_from_ne_true _ (λ bare.
    none-some p.1 (sym (none_at (entry_with (p ∷ items)) p.0 bare) ∙ by_site-at (λ s. found s (p ∷ items)) p.0 None rising.1 ∙ cond-true (p.0 == p.0) _ _ (eq-eqb p.0 p.0 refl)))

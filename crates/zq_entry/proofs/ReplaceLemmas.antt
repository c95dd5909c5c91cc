-- A list of values by rising site with the value of one site replaced.

use Rattle.std.proofs.Common.{inl, inr, ap, arith, cond, drop, eqb, refl, sym, take, ◌∙◌, ◌≡◌, ◌≢◌}
use Rattle.std.proofs.lemmas.Bool.{cases_eq, cases_lt}
use Rattle.std.specs.List.{AllByRecursion}
use Rattle.std.specs.Prelude.{List, None, Option, Some, [], ℕ, ◌+◌, ◌++◌, ◌<◌, ◌≤◌, ◌∷◌}
use Rattle.zq_model.specs.Sets.{SITES}
use Rattle.zq_entry.specs.Sparse.{first_at, place_in, rest_at}
use Rattle.zq_model.specs.Sparse.{AreBySite, found}
use Rattle.zq_entry.proofs.MergeLemmas.{cut-at, first-here, first-past, found-front_here, option_at, rest-here, rest-past, rising-front}
use Rattle.zq_entry.proofs.SparseLemmas.{found-here, found-past, found_below, place-here, place-past, rising_from}

-- the list with this, or nothing, of the site s
abbrev pub replaced : {X : Type 0} → ℕ → Option X → List (ℕ × X) → List (ℕ × X)
replaced s o items = take (place_in s items) items ++ (option_at s o ++ rest_at s (drop (place_in s items) items))

replaced-past : {X : Type 0} (s : ℕ) (o : Option X) (p : ℕ × X) (items : List (ℕ × X)) → p.0 < s → replaced s o (p ∷ items) ≡ p ∷ replaced s o items
replaced-past s o p items l = ap (λ k. take k (p ∷ items) ++ (option_at s o ++ rest_at s (drop k (p ∷ items)))) (place-past s p items l)

replaced-here : {X : Type 0} (s : ℕ) (o : Option X) (p : ℕ × X) (items : List (ℕ × X)) → s ≤ p.0 → replaced s o (p ∷ items) ≡ option_at s o ++ rest_at s (p ∷ items)
replaced-here s o p items l = ap (λ k. take k (p ∷ items) ++ (option_at s o ++ rest_at s (drop k (p ∷ items)))) (place-here s p items l)

-- the rest rises from past the site
rest-rising : {X : Type 0} (low s : ℕ) (p : ℕ × X) (items : List (ℕ × X)) → AreBySite low SITES (p ∷ items) → s ≤ p.0 → AreBySite (s + 1) SITES (rest_at s (p ∷ items))
rest-rising low s p items r l = (cut-at s (p ∷ items) (l, r.1, r.2)).rest

pub found-replaced_same : {X : Type 0} (s low : ℕ) (o : Option X) (items : List (ℕ × X)) → AreBySite low SITES items → found s (replaced s o items) ≡ o
found-replaced_same s low o [] r = found-front_here s SITES o [] tt
found-replaced_same s low o (p ∷ items) r =
    elim (cases_lt p.0 s) [
      | inl less ↦ ap (found s) (replaced-past s o p items less) ∙ (found-past s p (replaced s o items) (λ e. omega (arith, e, less)) ∙ found-replaced_same s (p.0 + 1) o items r.2)
      | inr more ↦ ap (found s) (replaced-here s o p items more) ∙ found-front_here s SITES o (rest_at s (p ∷ items)) (rest-rising low s p items r more)
    ]

found-option_other : {X : Type 0} (t s : ℕ) (o : Option X) (items : List (ℕ × X)) → s ≢ t → found t (option_at s o ++ items) ≡ found t items
found-option_other t s None items h = refl
found-option_other t s (Some x) items h = found-past t (s, x) items h

found-rest : {X : Type 0} (t s : ℕ) (p : ℕ × X) (items : List (ℕ × X)) → s ≢ t → found t (rest_at s (p ∷ items)) ≡ found t (p ∷ items)
found-rest t s p items h =
    elim (cases_eq p.0 s) [
      | inl same ↦ ap (found t) (rest-here s p items same) ∙ sym (found-past t p items (λ e. h (sym same ∙ e)))
      | inr other ↦ ap (found t) (rest-past s p items other)
    ]

pub found-replaced_other : {X : Type 0} (t s : ℕ) (o : Option X) (items : List (ℕ × X)) → s ≢ t → found t (replaced s o items) ≡ found t items
found-replaced_other t s o [] h = found-option_other t s o [] h
found-replaced_other t s o (p ∷ items) h =
    elim (cases_lt p.0 s) [
      | inl less ↦ ap (found t) (replaced-past s o p items less) ∙ ap (λ x. cond (eqb p.0 t) (Some p.1) x) (found-replaced_other t s o items h)
      | inr more ↦ ap (found t) (replaced-here s o p items more) ∙ (found-option_other t s o (rest_at s (p ∷ items)) h ∙ found-rest t s p items h)
    ]

pub rising-replaced : {X : Type 0} (low s : ℕ) (o : Option X) (items : List (ℕ × X)) → low ≤ s → s < SITES → AreBySite low SITES items → AreBySite low SITES (replaced s o items)
rising-replaced low s o [] l u r = rising_from s low SITES (option_at s o ++ []) l (rising-front s SITES o [] u tt)
rising-replaced low s o (p ∷ items) l u r =
    elim (cases_lt p.0 s) [
      | inl less ↦ rw (replaced-past s o p items less) (r.0, r.1, rising-replaced (p.0 + 1) s o items (omega arith) u r.2)
      | inr more ↦ rw (replaced-here s o p items more) (rising_from s low SITES (option_at s o ++ rest_at s (p ∷ items)) l (rising-front s SITES o (rest_at s (p ∷ items)) u (rest-rising low s p items r more)))
    ]

-- ---- what holds of each value

pub each-first : {X : Type 0} (P : ℕ × X → Type 0) (s : ℕ) (x : X) (items : List (ℕ × X)) → AllByRecursion P items → first_at s items ≡ Some x → P (s, x)
each-first P s x [] h e = absurd (cc)
each-first {X} P s x (p ∷ items) h e =
    elim (cases_eq p.0 s) [
      | inl same ↦
          let value : p.1 ≡ x = (let first = first-here s p items same in cc) in
          let pair : ◌≡◌ {A = ℕ × X} p (s, x) = ap (λ t. (t, p.1)) same ∙ ap (λ y. (s, y)) value in
          rw (← pair) h.0
      | inr other ↦ absurd (let none = first-past s p items other in cc)
    ]

pub each-rest : {X : Type 0} (P : ℕ × X → Type 0) (s : ℕ) (items : List (ℕ × X)) → AllByRecursion P items → AllByRecursion P (rest_at s items)
each-rest P s [] h = tt
each-rest P s (p ∷ items) h =
    elim (cases_eq p.0 s) [
      | inl same ↦ rw (rest-here s p items same) h.1
      | inr other ↦ rw (rest-past s p items other) h
    ]

each-front : {X : Type 0} (P : ℕ × X → Type 0) (s : ℕ) (o : Option X) (items : List (ℕ × X)) → ((x : X) → o ≡ Some x → P (s, x)) → AllByRecursion P items → AllByRecursion P (option_at s o ++ items)
each-front P s None items h k = k
each-front P s (Some x) items h k = (h x refl, k)

pub each-replaced : {X : Type 0} (P : ℕ × X → Type 0) (s : ℕ) (o : Option X) (items : List (ℕ × X)) → ((x : X) → o ≡ Some x → P (s, x)) → AllByRecursion P items → AllByRecursion P (replaced s o items)
each-replaced P s o [] h k = each-front P s o [] h tt
each-replaced P s o (p ∷ items) h k =
    elim (cases_lt p.0 s) [
      | inl less ↦ rw (replaced-past s o p items less) (k.0, each-replaced P s o items h k.1)
      | inr more ↦ rw (replaced-here s o p items more) (each-front P s o (rest_at s (p ∷ items)) h (each-rest P s (p ∷ items) k))
    ]

-- the first value from the site's place on is the site's
pub first-at_place : {X : Type 0} (s low : ℕ) (items : List (ℕ × X)) → AreBySite low SITES items → first_at s (drop (place_in s items) items) ≡ found s items
first-at_place s low [] r = refl
first-at_place s low (p ∷ items) r =
    elim (cases_lt p.0 s) [
      | inl less ↦ ap (λ k. first_at s (drop k (p ∷ items))) (place-past s p items less) ∙ (first-at_place s (p.0 + 1) items r.2 ∙ sym (found-past s p items (λ e. omega (arith, e, less))))
      | inr more ↦
          ap (λ k. first_at s (drop k (p ∷ items))) (place-here s p items more) ∙ elim (cases_eq p.0 s) [
            | inl same ↦ first-here s p items same ∙ sym (found-here s p items same)
            | inr other ↦ first-past s p items other ∙ sym (found_below s (s + 1) SITES (p ∷ items) (omega arith) (omega (arith, more, other), r.1, r.2))
          ]
    ]

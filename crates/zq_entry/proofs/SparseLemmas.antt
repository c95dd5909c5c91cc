-- Lists of values by rising site, and the lists with a place for each site.

use Rattle.std.proofs.Common.{inl, inr, ap, arith, cond, eqb, get_or, leb, length, ltb, set, sym, refl, zero, suc, ◌∙◌, ◌≡◌, ◌≢◌, true, false}
use Rattle.std.proofs.lemmas.Bool.{cases_Bool, cases_eq, cases_lt, cases_order}
use Rattle.std.proofs.lemmas.Bool.Decides.{nat_tests}
use Rattle.std.proofs.lemmas.List.Sums.{prefix_len-le-length}
use Rattle.std.specs.List.{filter, insert, range_with_len}
use Rattle.std.specs.Prelude.{Bool, List, None, Option, Some, [], map, nat_le, not, unwrap_or, ℕ, ◌+◌, ◌<◌, ◌≤◌, ◌∷◌}
use Rattle.zq_model.specs.Sets.{SITES, by_site}
use Rattle.zq_entry.specs.Sparse.{place_in, placed, sparse_from}
use Rattle.zq_model.specs.Sparse.{AreBySite, found}

-- ---- a value for each site

pub map_range-same : {X : Type 0} (f g : ℕ → X) (a n : ℕ) → ((s : ℕ) → a ≤ s → s < a + n → f s ≡ g s) → map f (range_with_len a n) ≡ map g (range_with_len a n)
map_range-same f g a zero h = refl
map_range-same f g a (suc n) h =
    let here = h a (omega arith) (omega arith) in
    let rest = map_range-same f g (a + 1) n (λ s l u. h s (omega arith) (omega arith)) in
    ap (λ x. x ∷ map f (range_with_len (a + 1) n)) here ∙ ap (λ xs. g a ∷ xs) rest

-- ---- look-ups

pub found-here : {X : Type 0} (s : ℕ) (p : ℕ × X) (items : List (ℕ × X)) → p.0 ≡ s → found s (p ∷ items) ≡ Some p.1
found-here s p items h =
    let test : eqb p.0 s ≡ true = grind (arith, nat_tests) in
    ap (λ b. cond b (Some p.1) (found s items)) test

pub found-past : {X : Type 0} (s : ℕ) (p : ℕ × X) (items : List (ℕ × X)) → p.0 ≢ s → found s (p ∷ items) ≡ found s items
found-past s p items h =
    let test : eqb p.0 s ≡ false = grind (arith, nat_tests) in
    ap (λ b. cond b (Some p.1) (found s items)) test

-- ---- rising sites

pub rising_from : {X : Type 0} (low lower high : ℕ) (items : List (ℕ × X)) → lower ≤ low → AreBySite low high items → AreBySite lower high items
rising_from low lower high [] h r = tt
rising_from low lower high (p ∷ items) h r = (omega (arith, r.0), r.1, r.2)

-- as many values as sites, at most
pub rising-length : {X : Type 0} (low high : ℕ) (items : List (ℕ × X)) → low ≤ high → AreBySite low high items → low + length items ≤ high
rising-length low high [] h r = omega arith
rising-length low high (p ∷ items) h r = omega (arith, r.0, r.1, rising-length (p.0 + 1) high items (omega (arith, r.1)) r.2)

-- no value stands below the lowest site
pub found_below : {X : Type 0} (s low high : ℕ) (items : List (ℕ × X)) → s < low → AreBySite low high items → found s items ≡ None
found_below s low high [] h r = refl
found_below s low high (p ∷ items) h r =
    found-past s p items (λ e. omega (arith, e, r.0)) ∙ found_below s (p.0 + 1) high items (omega (arith, r.0)) r.2

-- ---- a place for each site

-- what h makes of the values of n sites from a on
abbrev pub spread : {X Y : Type 0} → (Option X → Y) → ℕ → ℕ → List (ℕ × X) → List Y
spread h a n items = map (λ s. h (found s items)) (range_with_len a n)

-- the first of these sites has the first value, or none
pub data Step {X Y : Type 0} (h : Option X → Y) (a n high : ℕ) (items : List (ℕ × X)) : Type 0 where
  Here : (x : X) (rest : List (ℕ × X)) → items ≡ (a, x) ∷ rest → AreBySite (a + 1) high rest → spread h a (suc n) items ≡ h (Some x) ∷ spread h (a + 1) n rest → Step h a n high items
  Later : AreBySite (a + 1) high items → spread h a (suc n) items ≡ h None ∷ spread h (a + 1) n items → Step h a n high items

step-here : {X Y : Type 0} (h : Option X → Y) (a n high : ℕ) (p : ℕ × X) (items : List (ℕ × X)) → AreBySite a high (p ∷ items) → p.0 ≡ a → Step h a n high (p ∷ items)
step-here h a n high p items r same =
    let rest = map_range-same (λ s. h (found s (p ∷ items))) (λ s. h (found s items)) (a + 1) n (λ s l u. ap h (found-past s p items (λ e. omega (arith, e, same)))) in
    let front = ap h (found-here a p items same) in
    Here p.1 items (ap (λ s. (s, p.1) ∷ items) same) (rising_from (p.0 + 1) (a + 1) high items (omega (arith, same)) r.2)
    (ap (λ y. y ∷ spread h (a + 1) n (p ∷ items)) front ∙ ap (λ ys. h (Some p.1) ∷ ys) rest)

pub spread-step : {X Y : Type 0} (h : Option X → Y) (a n high : ℕ) (items : List (ℕ × X)) → AreBySite a high items → Step h a n high items
spread-step h a n high [] r = Later tt refl
spread-step h a n high (p ∷ items) r =
    elim (cases_order a p.0) [
      | inr (inl less) ↦ Later (omega arith, r.1, r.2) (ap (λ o. h o ∷ spread h (a + 1) n (p ∷ items)) (found_below a (a + 1) high (p ∷ items) (omega arith) (omega arith, r.1, r.2)))
      | inl same ↦ step-here h a n high p items r (sym same)
      | inr (inr more) ↦ absurd (omega (arith, r.0, more))
    ]

-- no value has a site, where there is none
pub rising-none : {X : Type 0} (a high : ℕ) (items : List (ℕ × X)) → high ≤ a → AreBySite a high items → items ≡ []
rising-none a high [] h r = refl
rising-none a high (p ∷ items) h r = absurd (omega (arith, r.0, r.1))

-- ---- a value put in its place

placed-before : {X : Type 0} (s : ℕ) (x : X) (p : ℕ × X) (items : List (ℕ × X)) → p.0 < s → placed s x (p ∷ items) ≡ p ∷ placed s x items
placed-before s x p items h =
    let test : ltb p.0 s ≡ true = grind (arith, nat_tests) in
    ap (λ b. cond b (p ∷ placed s x items) (cond (eqb p.0 s) ((s, x) ∷ items) ((s, x) ∷ p ∷ items))) test

placed-at : {X : Type 0} (s : ℕ) (x : X) (p : ℕ × X) (items : List (ℕ × X)) → p.0 ≡ s → placed s x (p ∷ items) ≡ (s, x) ∷ items
placed-at s x p items h =
    let less : ltb p.0 s ≡ false = grind (arith, nat_tests) in
    let same : eqb p.0 s ≡ true = grind (arith, nat_tests) in
    ap (λ b. cond b (p ∷ placed s x items) (cond (eqb p.0 s) ((s, x) ∷ items) ((s, x) ∷ p ∷ items))) less ∙ ap (λ b. cond b ((s, x) ∷ items) ((s, x) ∷ p ∷ items)) same

placed-after : {X : Type 0} (s : ℕ) (x : X) (p : ℕ × X) (items : List (ℕ × X)) → s < p.0 → placed s x (p ∷ items) ≡ (s, x) ∷ p ∷ items
placed-after s x p items h =
    let less : ltb p.0 s ≡ false = grind (arith, nat_tests) in
    let same : eqb p.0 s ≡ false = grind (arith, nat_tests) in
    ap (λ b. cond b (p ∷ placed s x items) (cond (eqb p.0 s) ((s, x) ∷ items) ((s, x) ∷ p ∷ items))) less ∙ ap (λ b. cond b ((s, x) ∷ items) ((s, x) ∷ p ∷ items)) same

pub found-placed_same : {X : Type 0} (s : ℕ) (x : X) (items : List (ℕ × X)) → found s (placed s x items) ≡ Some x
found-placed_same s x [] = found-here s (s, x) [] refl
found-placed_same s x (p ∷ items) =
    elim (cases_order p.0 s) [
      | inr (inl less) ↦ ap (found s) (placed-before s x p items less) ∙ (found-past s p (placed s x items) (λ e. omega (arith, e, less)) ∙ found-placed_same s x items)
      | inl same ↦ ap (found s) (placed-at s x p items same) ∙ found-here s (s, x) items refl
      | inr (inr more) ↦ ap (found s) (placed-after s x p items more) ∙ found-here s (s, x) (p ∷ items) refl
    ]

pub found-placed_other : {X : Type 0} (t s : ℕ) (x : X) (items : List (ℕ × X)) → s ≢ t → found t (placed s x items) ≡ found t items
found-placed_other t s x [] h = found-past t (s, x) [] h
found-placed_other t s x (p ∷ items) h =
    elim (cases_order p.0 s) [
      | inr (inl less) ↦ ap (found t) (placed-before s x p items less) ∙ ap (λ o. cond (eqb p.0 t) (Some p.1) o) (found-placed_other t s x items h)
      | inl same ↦ ap (found t) (placed-at s x p items same) ∙ (found-past t (s, x) items h ∙ sym (found-past t p items (λ e. h (sym same ∙ e))))
      | inr (inr more) ↦ ap (found t) (placed-after s x p items more) ∙ found-past t (s, x) (p ∷ items) h
    ]

pub rising-placed : {X : Type 0} (low high s : ℕ) (x : X) (items : List (ℕ × X)) → low ≤ s → s < high → AreBySite low high items → AreBySite low high (placed s x items)
rising-placed low high s x [] l u r = (l, u, tt)
rising-placed low high s x (p ∷ items) l u r =
    elim (cases_order p.0 s) [
      | inr (inl less) ↦ rw (placed-before s x p items less) (r.0, r.1, rising-placed (p.0 + 1) high s x items (omega arith) u r.2)
      | inl same ↦ rw (placed-at s x p items same) (l, u, rising_from (p.0 + 1) (s + 1) high items (omega (arith, same)) r.2)
      | inr (inr more) ↦ rw (placed-after s x p items more) (l, u, (omega arith, r.1, r.2))
    ]

-- ---- where a value has its place

pub place-past : {X : Type 0} (s : ℕ) (p : ℕ × X) (items : List (ℕ × X)) → p.0 < s → place_in s (p ∷ items) ≡ suc (place_in s items)
place-past s p items h =
    let test : leb s p.0 ≡ false = grind (arith, nat_tests) in
    let one : 1 + place_in s items ≡ suc (place_in s items) = omega arith in
    ap (λ b. cond (not b) (1 + place_in s items) 0) test ∙ one

pub place-here : {X : Type 0} (s : ℕ) (p : ℕ × X) (items : List (ℕ × X)) → s ≤ p.0 → place_in s (p ∷ items) ≡ 0
place-here s p items h =
    let test : leb s p.0 ≡ true = grind (arith, nat_tests) in
    ap (λ b. cond (not b) (1 + place_in s items) 0) test

pub place-within : {X : Type 0} (s : ℕ) (items : List (ℕ × X)) → place_in s items ≤ length items
place-within s items = prefix_len-le-length (λ p. not (nat_le s p.0)) items

-- where a search for the place ends without one, it is the end
pub place-or_end : {X : Type 0} (s : ℕ) (items : List (ℕ × X)) → unwrap_or (cond (ltb (place_in s items) (length items)) (Some (place_in s items)) None) (length items) ≡ place_in s items
place-or_end s items =
    let within = place-within s items in
    elim (cases_lt (place_in s items) (length items)) [
      | inl inside ↦
          let test : ltb (place_in s items) (length items) ≡ true = grind (arith, nat_tests) in
          ap (λ b. unwrap_or (cond b (Some (place_in s items)) None) (length items)) test
      | inr end ↦
          let test : ltb (place_in s items) (length items) ≡ false = grind (arith, nat_tests) in
          ap (λ b. unwrap_or (cond b (Some (place_in s items)) None) (length items)) test ∙ (omega arith)
    ]

set-place_past : {X : Type 0} (s : ℕ) (x : X) (d p : ℕ × X) (items : List (ℕ × X)) → p.0 < s → place_in s (p ∷ items) < length (p ∷ items) → (get_or (p ∷ items) (place_in s (p ∷ items)) d).0 ≡ s
    → (place_in s items < length items → (get_or items (place_in s items) d).0 ≡ s → set items (place_in s items) (s, x) ≡ placed s x items) → set (p ∷ items) (place_in s (p ∷ items)) (s, x) ≡ placed s x (p ∷ items)
set-place_past s x d p items less l e again =
    let past = place-past s p items less in
    let same = ap (λ i. (get_or (p ∷ items) i d).0) (sym past) ∙ e in
    ap (λ i. set (p ∷ items) i (s, x)) past ∙ (ap (λ xs. p ∷ xs) (again (omega (arith, l, past)) same) ∙ sym (placed-before s x p items less))

insert-place_past : {X : Type 0} (s : ℕ) (x : X) (d p : ℕ × X) (items : List (ℕ × X)) → p.0 < s → (place_in s (p ∷ items) < length (p ∷ items) → (get_or (p ∷ items) (place_in s (p ∷ items)) d).0 ≢ s)
    → ((place_in s items < length items → (get_or items (place_in s items) d).0 ≢ s) → insert items (place_in s items) (s, x) ≡ placed s x items) → insert (p ∷ items) (place_in s (p ∷ items)) (s, x) ≡ placed s x (p ∷ items)
insert-place_past s x d p items less h again =
    let past = place-past s p items less in
    let other = λ (l : place_in s items < length items) (e : (get_or items (place_in s items) d).0 ≡ s). h (omega (arith, l, past)) (ap (λ i. (get_or (p ∷ items) i d).0) past ∙ e) in
    ap (λ i. insert (p ∷ items) i (s, x)) past ∙ (ap (λ xs. p ∷ xs) (again other) ∙ sym (placed-before s x p items less))

insert-place_at : {X : Type 0} (s : ℕ) (d p : ℕ × X) (items : List (ℕ × X)) → p.0 ≡ s → (place_in s (p ∷ items) < length (p ∷ items) → (get_or (p ∷ items) (place_in s (p ∷ items)) d).0 ≢ s) → ⊥
insert-place_at s d p items same h =
    let here = place-here s p items (omega (arith, same)) in
    h (omega (arith, here)) (ap (λ i. (get_or (p ∷ items) i d).0) here ∙ same)

-- the value of this site there is written over
set-place : {X : Type 0} (s : ℕ) (x : X) (d : ℕ × X) (items : List (ℕ × X)) → place_in s items < length items → (get_or items (place_in s items) d).0 ≡ s → set items (place_in s items) (s, x) ≡ placed s x items
set-place s x d [] l e = absurd (omega (arith, l))
set-place s x d (p ∷ items) l e =
    elim (cases_order p.0 s) [
      | inr (inl less) ↦ set-place_past s x d p items less l e (set-place s x d items)
      | inl same ↦ ap (λ i. set (p ∷ items) i (s, x)) (place-here s p items (omega arith)) ∙ sym (placed-at s x p items same)
      | inr (inr more) ↦ absurd (omega (arith, more, ap (λ i. (get_or (p ∷ items) i d).0) (sym (place-here s p items (omega arith))) ∙ e))
    ]

-- no value of this site is there, and this one goes in between
insert-place : {X : Type 0} (s : ℕ) (x : X) (d : ℕ × X) (items : List (ℕ × X)) → (place_in s items < length items → (get_or items (place_in s items) d).0 ≢ s) → insert items (place_in s items) (s, x) ≡ placed s x items
insert-place s x d [] h = refl
insert-place s x d (p ∷ items) h =
    elim (cases_order p.0 s) [
      | inr (inl less) ↦ insert-place_past s x d p items less h (insert-place s x d items)
      | inl same ↦ absurd (insert-place_at s d p items same h)
      | inr (inr more) ↦ ap (λ i. insert (p ∷ items) i (s, x)) (place-here s p items (omega arith)) ∙ sym (placed-after s x p items more)
    ]

-- written over at its place
pub set-placed : {X : Type 0} (s : ℕ) (x : X) (d : ℕ × X) (i : ℕ) (items : List (ℕ × X)) → i ≡ place_in s items → i < length items → (get_or items i d).0 ≡ s → set items i (s, x) ≡ placed s x items
set-placed s x d i items at l e =
    ap (λ j. set items j (s, x)) at ∙ set-place s x d items (omega (arith, at)) (ap (λ j. (get_or items j d).0) (sym at) ∙ e)

-- put in at its place
pub insert-placed : {X : Type 0} (s : ℕ) (x : X) (d : ℕ × X) (i : ℕ) (items : List (ℕ × X)) → i ≡ place_in s items → (i < length items → (get_or items i d).0 ≢ s) → insert items i (s, x) ≡ placed s x items
insert-placed s x d i items at h =
    ap (λ j. insert items j (s, x)) at ∙ insert-place s x d items (λ l e. h (omega (arith, at, l)) (ap (λ j. (get_or items j d).0) at ∙ e))

-- ---- a filter

-- what a filter leaves of a site
abbrev pub kept : {X : Type 0} → (ℕ × X → Bool) → ℕ → Option X → Option X
kept keep s None = None
kept keep s (Some x) = cond (keep (s, x)) (Some x) None

pub rising-filter : {X : Type 0} (keep : ℕ × X → Bool) (low high : ℕ) (items : List (ℕ × X)) → AreBySite low high items → AreBySite low high (filter keep items)
rising-filter keep low high [] r = tt
rising-filter keep low high (p ∷ items) r =
    elim (cases_Bool (keep p)) [
      | inl passes ↦ rw passes (r.0, r.1, rising-filter keep (p.0 + 1) high items r.2)
      | inr fails ↦ rw fails (rising_from (p.0 + 1) low high (filter keep items) (omega (arith, r.0)) (rising-filter keep (p.0 + 1) high items r.2))
    ]

kept-filter_at : {X : Type 0} (keep : ℕ × X → Bool) (s high : ℕ) (p : ℕ × X) (items : List (ℕ × X)) → AreBySite (p.0 + 1) high items → p.0 ≡ s → found s (filter keep (p ∷ items)) ≡ kept keep s (Some p.1)
kept-filter_at {X} keep s high p items r same =
    let again : ◌≡◌ {A = ℕ × X} p (s, p.1) = ap (λ t. (t, p.1)) same in
    elim (cases_Bool (keep p)) [
      | inl passes ↦ ap (λ b. found s (cond b (p ∷ filter keep items) (filter keep items))) passes ∙ (found-here s p (filter keep items) same ∙ ap (λ b. cond b (Some p.1) None) (sym passes ∙ ap keep again))
      | inr fails ↦ ap (λ b. found s (cond b (p ∷ filter keep items) (filter keep items))) fails ∙ (found_below s (p.0 + 1) high (filter keep items) (omega (arith, same)) (rising-filter keep (p.0 + 1) high items r) ∙ ap (λ b. cond b (Some p.1) None) (sym fails ∙ ap keep again))
    ]

kept-filter_past : {X : Type 0} (keep : ℕ × X → Bool) (s : ℕ) (p : ℕ × X) (items : List (ℕ × X)) → p.0 ≢ s → found s (filter keep (p ∷ items)) ≡ found s (filter keep items)
kept-filter_past keep s p items other =
    elim (cases_Bool (keep p)) [
      | inl passes ↦ ap (λ b. found s (cond b (p ∷ filter keep items) (filter keep items))) passes ∙ found-past s p (filter keep items) other
      | inr fails ↦ ap (λ b. found s (cond b (p ∷ filter keep items) (filter keep items))) fails
    ]

-- a filter leaves of a site its value, where the value passes
pub found-filter : {X : Type 0} (keep : ℕ × X → Bool) (s low high : ℕ) (items : List (ℕ × X)) → AreBySite low high items → found s (filter keep items) ≡ kept keep s (found s items)
found-filter keep s low high [] r = refl
found-filter keep s low high (p ∷ items) r =
    elim (cases_eq p.0 s) [
      | inl same ↦ kept-filter_at keep s high p items r.2 same ∙ ap (kept keep s) (sym (found-here s p items same))
      | inr other ↦ kept-filter_past keep s p items other ∙ (found-filter keep s (p.0 + 1) high items r.2 ∙ ap (kept keep s) (sym (found-past s p items other)))
    ]

-- ---- the values of a list with a place for each site

abbrev as_it_is : {X : Type 0} → Option X → Option X
as_it_is value = value

sparse-spread : {X : Type 0} (n a high : ℕ) (items : List (ℕ × X)) → a + n ≡ high → AreBySite a high items → sparse_from a (spread as_it_is a n items) ≡ items
sparse-spread zero a high items e r = sym (rising-none a high items (omega arith) r)
sparse-spread (suc n) a high items e r =
    elim (spread-step as_it_is a n high items r) [
      | Here x rest is rising front ↦ ap (sparse_from a) front ∙ (ap (λ xs. (a, x) ∷ xs) (sparse-spread n (a + 1) high rest (omega arith) rising) ∙ sym is)
      | Later rising front ↦ ap (sparse_from a) front ∙ sparse-spread n (a + 1) high items (omega arith) rising
    ]

-- what stands in the places of a rising list is the list
pub sparse-dense : {X : Type 0} (items : List (ℕ × X)) → AreBySite 0 SITES items → sparse_from 0 (by_site (λ s. found s items)) ≡ items
sparse-dense items r = sparse-spread SITES 0 SITES items (omega arith) r

-- rising lists of which the same is found at each site are one
pub rising-same : {X : Type 0} (xs ys : List (ℕ × X)) → AreBySite 0 SITES xs → AreBySite 0 SITES ys → by_site (λ s. found s xs) ≡ by_site (λ s. found s ys) → xs ≡ ys
rising-same xs ys r q h =
    sym (sparse-dense xs r) ∙ (ap (sparse_from 0) h ∙ sparse-dense ys q)

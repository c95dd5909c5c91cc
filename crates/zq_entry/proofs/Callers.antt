-- Lemmas for callers: what entries keep within a vector, and the join with nothing.

use Rattle.std.proofs.Common.{inl, inr, ap, arith, cond, get_or, get_or-set_other, get_or-set_same, length, max, set, subst, sym, refl, true, false, ◌∙◌, ◌≡◌}
use Rattle.std.proofs.lemmas.Bool.{cases_Bool, cases_eq, cases_lt}
use Rattle.std.proofs.lemmas.Bool.Decides.{nat_tests}
use Rattle.std.proofs.lemmas.Int.{ints}
use Rattle.std.proofs.lemmas.List.{get_or_past}
use Rattle.std.specs.List.{list_all, range_with_len}
use Rattle.std.specs.Prelude.{List, None, Option, Some, [], is_none, map, nat_lt, pos, slice_index, slice_index_or, slice_set, ℕ, ℤ, ◌*◌, ◌+ℤ◌, ◌-◌, ◌<◌, ◌==◌, ◌≤◌, ◌∷◌, ◌&&◌, if◌then◌else◌}
use Rattle.zq_model.proofs.BoundedImages.{without_some}
use Rattle.zq_model.proofs.Bounds.{within_more, within_zero}
use Rattle.zq_model.proofs.Entries.{at_stands}
use Rattle.zq_model.proofs.Sites.{by_site-at, by_site-past, by_site-same, by_site_from}
use Rattle.zq_model.specs.Entry.{Addition, after_act, bumped, bumped_if, join_site, joined, or_else, sum_at, unless_known, without}
use Rattle.zq_model.specs.Image.{Entry, addition_at, entry_after, is_bare, join_entry, join_vector, no_additions}
use Rattle.zq_model.specs.Joining.{IsKnown}
use Rattle.zq_model.specs.Operation.{Bump, Drop, IsWithin, MOST, Put, has}
use Rattle.zq_model.specs.Sets.{SITES, by_site}
use Rattle.zq_entry.specs.Placed.{addition_of_put, placed_of}
use Rattle.zq_entry.proofs.EntryLemmas.{placed-dense}
use Rattle.zq_entry.specs.Within.{AreSumsWithin, IsEntryWithin}

-- ---- one addition

-- the vector has the addition's dot, and its sums are in range
record IsAdditionWithin (v : List ℕ) (s : ℕ) (a : Addition) : Type 0 where
  known : IsKnown v s a.n
  sums : (t : ℕ) → IsWithin (MOST * slice_index v t) (sum_at a t)

nothing-within : (b : ℕ) (x : ℤ) → x ≡ pos 0 → IsWithin b x
nothing-within b x e = subst (IsWithin b) (sym e) (within_zero b)

grows : (v w : List ℕ) (s : ℕ) (a : Addition) → ((t : ℕ) → slice_index v t ≤ slice_index w t) → IsAdditionWithin v s a → IsAdditionWithin w s a
grows v w s a g h = record {
  known = (h.known.0, omega (arith, h.known.1, g s));
  sums = λ t. within_more (MOST * slice_index v t) (MOST * slice_index w t) (sum_at a t) (omega (arith, g t)) (h.sums t);
}

from-each : (v : List ℕ) (f : ℕ → Option Addition) → ((s : ℕ) (a : Addition) → s < SITES → f s ≡ Some a → IsAdditionWithin v s a) → IsEntryWithin v (by_site f)
from-each v f h = record {
  known = λ s a e. let at = at_stands f s a e in (h s a at.0 at.1).known;
  sums = λ t s a e. let at = at_stands f s a e in (h s a at.0 at.1).sums t;
}

within-at : (v : List ℕ) (e : Entry) (s : ℕ) (a : Addition) → IsEntryWithin v e → addition_at e s ≡ Some a → IsAdditionWithin v s a
within-at v e s a h is = record { known = h.known s a is; sums = λ t. h.sums t s a is }

-- ---- nothing, and a vector that grows

-- an empty entry has no additions
pub placed-no_additions : placed_of no_additions ≡ []
placed-no_additions = placed-dense [] tt

pub within-none : (v : List ℕ) → IsEntryWithin v no_additions
within-none v = from-each v (λ _. None) (λ s a l e. absurd (cc))

pub within-grows : (v w : List ℕ) (e : Entry) → ((t : ℕ) → slice_index v t ≤ slice_index w t) → IsEntryWithin v e → IsEntryWithin w e
within-grows v w e g h = record {
  known = λ s a is. (grows v w s a g (within-at v e s a h is)).known;
  sums = λ t s a is. (grows v w s a g (within-at v e s a h is)).sums t;
}

-- ---- a Drop and a Put

unless-some : (v : List ℕ) (s : ℕ) (a b : Addition) → unless_known v s a ≡ Some b → a ≡ b
unless-some v s a b e =
    elim (cases_Bool (has v s a.n)) [
      | inl known ↦ absurd (let none : unless_known v s a ≡ None = ap (λ c. cond c None (Some a)) known in cc)
      | inr not_known ↦ (let some : unless_known v s a ≡ Some a = ap (λ c. cond c None (Some a)) not_known in cc)
    ]

pub within-drop : (v seen : List ℕ) (t n : ℕ) (e : Entry) → IsEntryWithin v e → IsEntryWithin v (entry_after Drop t n seen e)
within-drop v seen t n e h =
    from-each v (λ s. without seen s (addition_at e s)) (λ s a l is. within-at v e s a h (without_some seen s (addition_at e s) a is))

-- a vector with a greater counter at one site is no less at each
pub set-grows : (v : List ℕ) (t n r : ℕ) → slice_index v t < n → slice_index v r ≤ slice_index (slice_set v t n) r
set-grows v t n r l =
    elim (cases_eq r t) [
      | inl same ↦
          elim (cases_lt t (length v)) [
            | inl inside ↦
                let new : get_or (set v t n) t 0 ≡ n = get_or-set_same v t n 0 inside in
                subst (λ i. slice_index v i ≤ slice_index (slice_set v t n) i) (sym same) (omega (arith, new, l))
            | inr past ↦
                let old : get_or v r 0 ≡ 0 = get_or_past v r 0 (omega (arith, same, past)) in
                omega (arith, old)
          ]
      | inr other ↦
          let kept : get_or (set v t n) r 0 ≡ get_or v r 0 = get_or-set_other v t r n 0 other in
          omega (arith, kept)
    ]

no-sums : (n : ℕ) (score : ℤ) (r : ℕ) → sum_at (addition_of_put n score) r ≡ pos 0
no-sums n score r = elim (cases_lt r SITES) [ inl l ↦ by_site-at (λ _. pos 0) r (pos 0) l | inr m ↦ by_site-past (λ _. pos 0) r (pos 0) m ]

put-within : (v : List ℕ) (t n : ℕ) (score : ℤ) → t < length v → slice_index v t < n → IsAdditionWithin (slice_set v t n) t (addition_of_put n score)
put-within v t n score w l =
    let new : get_or (set v t n) t 0 ≡ n = get_or-set_same v t n 0 w in
    record {
      known = (omega arith, omega (arith, new));
      sums = λ r. nothing-within (MOST * slice_index (slice_set v t n) r) (sum_at (addition_of_put n score) r) (no-sums n score r);
    }

pub within-put : (v seen : List ℕ) (t n : ℕ) (x : ℤ) (e : Entry) → length v ≡ SITES → t < SITES → slice_index v t < n → IsEntryWithin v e → IsEntryWithin (slice_set v t n) (entry_after (Put x) t n seen e)
within-put v seen t n x e w l g h =
    from-each (slice_set v t n) (λ s. after_act (Put x) t n seen s (addition_at e s)) (λ s a k is.
    elim (cases_eq t s) [
      | inl same ↦
          let test : (t == s) ≡ true = grind (arith, nat_tests) in
          let its : addition_of_put n x ≡ a = (let form = ap (λ b. cond b (Some (addition_of_put n x)) (without seen s (addition_at e s))) test in cc) in
          subst (λ r. IsAdditionWithin (slice_set v t n) r a) same (subst (λ y. IsAdditionWithin (slice_set v t n) t y) its (put-within v t n x (omega (arith, w, l)) g))
      | inr other ↦
          let test : (t == s) ≡ false = grind (arith, nat_tests) in
          let left = sym (ap (λ b. cond b (Some (addition_of_put n x)) (without seen s (addition_at e s))) test) ∙ is in
          grows v (slice_set v t n) s a (λ r. set-grows v t n r g) (within-at v e s a h (without_some seen s (addition_at e s) a left))
    ])

-- ---- a Bump

-- there is room for one more increment
pub bump-room : (v : List ℕ) (t n : ℕ) (e : Entry) → slice_index v t < n → IsEntryWithin v e → AreSumsWithin t (MOST * (n - 1)) e
bump-room v t n e l h = λ s a is. within_more (MOST * slice_index v t) (MOST * (n - 1)) (sum_at a t) (omega arith) (h.sums t s a is)

-- the sums after a Bump
abbrev sums_after : ℕ → ℤ → Addition → ℕ → ℤ
sums_after t i a r = if r == t then sum_at a r +ℤ i else sum_at a r

sum-after : (v : List ℕ) (t n r : ℕ) (i : ℤ) (a : Addition) → t < length v → slice_index v t < n → IsWithin MOST i → ((r : ℕ) → IsWithin (MOST * slice_index v r) (sum_at a r)) → IsWithin (MOST * slice_index (slice_set v t n) r) (sums_after t i a r)
sum-after v t n r i a w l k h =
    elim (cases_eq r t) [
      | inl same ↦
          let test : (r == t) ≡ true = grind (arith, nat_tests) in
          let new : get_or (set v t n) t 0 ≡ n = get_or-set_same v t n 0 w in
          let room = h t in
          let more : IsWithin (MOST * n) (sum_at a t +ℤ i) = (omega (arith, ints), omega (arith, ints)) in
          rw test (subst (λ p. IsWithin (MOST * slice_index (slice_set v t n) p) (sum_at a p +ℤ i)) (sym same) (subst (λ m. IsWithin (MOST * m) (sum_at a t +ℤ i)) (sym new) more))
      | inr other ↦
          let test : (r == t) ≡ false = grind (arith, nat_tests) in
          rw test (within_more (MOST * slice_index v r) (MOST * slice_index (slice_set v t n) r) (sum_at a r) (omega (arith, set-grows v t n r l)) (h r))
    ]

bumped-within : (v seen : List ℕ) (s t n : ℕ) (i : ℤ) (a : Addition) → t < length v → slice_index v t < n → IsWithin MOST i → IsAdditionWithin v s a → IsAdditionWithin (slice_set v t n) s (bumped seen s t i a)
bumped-within v seen s t n i a w l k h =
    elim (cases_Bool (has seen s a.n)) [
      | inl known ↦ rw known (record {
        known = (grows v (slice_set v t n) s a (λ r. set-grows v t n r l) h).known;
        sums = λ r.
            elim (cases_lt r SITES) [
              | inl below ↦ subst (IsWithin (MOST * slice_index (slice_set v t n) r)) (sym (by_site-at (sums_after t i a) r (pos 0) below)) (sum-after v t n r i a w l k h.sums)
              | inr past ↦ nothing-within (MOST * slice_index (slice_set v t n) r) (slice_index_or (by_site (sums_after t i a)) r (pos 0)) (by_site-past (sums_after t i a) r (pos 0) past)
            ];
      })
      | inr not_known ↦ rw not_known (grows v (slice_set v t n) s a (λ r. set-grows v t n r l) h)
    ]

pub within-bump : (v seen : List ℕ) (t n : ℕ) (i : ℤ) (e : Entry) → length v ≡ SITES → t < SITES → slice_index v t < n → IsWithin MOST i → IsEntryWithin v e → IsEntryWithin (slice_set v t n) (entry_after (Bump i) t n seen e)
within-bump v seen t n i e w l g k h =
    from-each (slice_set v t n) (λ s. bumped_if seen s t i (addition_at e s)) (λ s a below is. go s a (addition_at e s) (λ b at. within-at v e s b h at) is)
  where
    go : (s : ℕ) (a : Addition) (o : Option Addition) → ((b : Addition) → o ≡ Some b → IsAdditionWithin v s b) → bumped_if seen s t i o ≡ Some a → IsAdditionWithin (slice_set v t n) s a
    go s a None f is = absurd (cc)
    go s a (Some b) f is =
        let same : bumped seen s t i b ≡ a = cc in
        subst (λ y. IsAdditionWithin (slice_set v t n) s y) same (bumped-within v seen s t n i b (omega (arith, w, l)) g k (f b refl))

-- a Bump leaves nothing where nothing stood, and else something
same-bare : (f g : ℕ → Option Addition) (xs : List ℕ) → ((s : ℕ) → is_none (f s) ≡ is_none (g s)) → list_all is_none (map f xs) ≡ list_all is_none (map g xs)
same-bare f g [] h = refl
same-bare f g (s ∷ xs) h = ap (λ b. b && list_all is_none (map f xs)) (h s) ∙ ap (λ b. is_none (g s) && b) (same-bare f g xs h)

bumped-none : (seen : List ℕ) (s t : ℕ) (i : ℤ) (o : Option Addition) → is_none (bumped_if seen s t i o) ≡ is_none o
bumped-none seen s t i None = refl
bumped-none seen s t i (Some a) = refl

pub bare-bump : (seen : List ℕ) (t n : ℕ) (i : ℤ) (e : Entry) → length e ≡ SITES → is_bare (entry_after (Bump i) t n seen e) ≡ is_bare e
bare-bump seen t n i e w =
    same-bare (λ s. bumped_if seen s t i (addition_at e s)) (addition_at e) (range_with_len 0 SITES) (λ s. bumped-none seen s t i (addition_at e s))
    ∙ ap is_bare (sym (by_site_from (addition_at e) e None w (λ s l. refl)))

-- ---- a join

join-grows_first : (u v : List ℕ) (t : ℕ) → length u ≡ SITES → slice_index u t ≤ slice_index (join_vector u v) t
join-grows_first u v t w =
    elim (cases_lt t SITES) [
      | inl l ↦ let at : get_or (join_vector u v) t 0 ≡ max (slice_index u t) (slice_index v t) = by_site-at (λ r. max (slice_index u r) (slice_index v r)) t 0 l in omega (arith, at)
      | inr m ↦ let none : get_or u t 0 ≡ 0 = get_or_past u t 0 (omega (arith, w, m)) in omega (arith, none)
    ]

join-grows_second : (u v : List ℕ) (t : ℕ) → length v ≡ SITES → slice_index v t ≤ slice_index (join_vector u v) t
join-grows_second u v t w =
    elim (cases_lt t SITES) [
      | inl l ↦ let at : get_or (join_vector u v) t 0 ≡ max (slice_index u t) (slice_index v t) = by_site-at (λ r. max (slice_index u r) (slice_index v r)) t 0 l in omega (arith, at)
      | inr m ↦ let none : get_or v t 0 ≡ 0 = get_or_past v t 0 (omega (arith, w, m)) in omega (arith, none)
    ]

-- the sums of an addition that both have
abbrev sums_of_both : List ℕ → List ℕ → Addition → Addition → ℕ → ℤ
sums_of_both u v a b t = if nat_lt (slice_index u t) (slice_index v t) then sum_at b t else sum_at a t

both-within : (u v w : List ℕ) (s : ℕ) (a b : Addition) → IsAdditionWithin w s a → IsAdditionWithin w s b → IsAdditionWithin w s (joined u v a b)
both-within u v w s a b h k = record {
  known = h.known;
  sums = λ t.
      elim (cases_lt t SITES) [
        | inl l ↦
            subst (IsWithin (MOST * slice_index w t)) (sym (by_site-at (sums_of_both u v a b) t (pos 0) l)) (elim (nat_lt (slice_index u t) (slice_index v t)) as (λ c. IsWithin (MOST * slice_index w t) (cond c (sum_at b t) (sum_at a t))) [ true ↦ k.sums t | false ↦ h.sums t ])
        | inr m ↦ nothing-within (MOST * slice_index w t) (slice_index_or (by_site (sums_of_both u v a b)) t (pos 0)) (by_site-past (sums_of_both u v a b) t (pos 0) m)
      ];
}

one-within : (u v w : List ℕ) (s : ℕ) (a b c : Addition) → IsAdditionWithin w s a → IsAdditionWithin w s b → or_else (unless_known v s a) (unless_known u s b) ≡ Some c → IsAdditionWithin w s c
one-within u v w s a b c h k e =
    elim (cases_Bool (has v s a.n)) [
      | inl known ↦
          let second : unless_known u s b ≡ Some c = ap (λ d. or_else (cond d None (Some a)) (unless_known u s b)) (sym known) ∙ e in
          subst (λ y. IsAdditionWithin w s y) (unless-some u s b c second) k
      | inr not_known ↦
          let first : a ≡ c = (let form = ap (λ d. or_else (cond d None (Some a)) (unless_known u s b)) (sym not_known) ∙ e in cc) in
          subst (λ y. IsAdditionWithin w s y) first h
    ]

site-within : (u v w : List ℕ) (s : ℕ) (x y : Option Addition) (c : Addition) → ((a : Addition) → x ≡ Some a → IsAdditionWithin w s a) → ((b : Addition) → y ≡ Some b → IsAdditionWithin w s b) → join_site u v s x y ≡ Some c → IsAdditionWithin w s c
site-within u v w s None None c h k e = absurd (cc)
site-within u v w s (Some a) None c h k e = subst (λ y. IsAdditionWithin w s y) (unless-some v s a c e) (h a refl)
site-within u v w s None (Some b) c h k e = subst (λ y. IsAdditionWithin w s y) (unless-some u s b c e) (k b refl)
site-within u v w s (Some a) (Some b) c h k e =
    elim (cases_Bool (a.n == b.n)) [
      | inl same ↦
          let both : joined u v a b ≡ c = (let form = ap (λ d. cond d (Some (joined u v a b)) (or_else (unless_known v s a) (unless_known u s b))) (sym same) ∙ e in cc) in
          subst (λ y. IsAdditionWithin w s y) both (both-within u v w s a b (h a refl) (k b refl))
      | inr other ↦ one-within u v w s a b c (h a refl) (k b refl) (ap (λ d. cond d (Some (joined u v a b)) (or_else (unless_known v s a) (unless_known u s b))) (sym other) ∙ e)
    ]

pub within-merge : (u v : List ℕ) (a b : Entry) → length u ≡ SITES → length v ≡ SITES → IsEntryWithin u a → IsEntryWithin v b → IsEntryWithin (join_vector u v) (join_entry u v a b)
within-merge u v a b p q h k =
    let w = join_vector u v in
    from-each w (λ s. join_site u v s (addition_at a s) (addition_at b s)) (λ s c l is.
    site-within u v w s (addition_at a s) (addition_at b s) c (λ x at. grows u w s x (λ t. join-grows_first u v t p) (within-at u a s x h at)) (λ y at. grows v w s y (λ t. join-grows_second u v t q) (within-at v b s y k at)) is)

-- ---- the join with nothing is a Drop

right-none : (u v : List ℕ) (s : ℕ) (x : Option Addition) → join_site u v s x None ≡ without v s x
right-none u v s None = refl
right-none u v s (Some a) = refl

pub join-none_right : (u v : List ℕ) (e : Entry) (t n : ℕ) → join_entry u v e no_additions ≡ entry_after Drop t n v e
join-none_right u v e t n =
    by_site-same (λ s. join_site u v s (addition_at e s) (addition_at no_additions s)) (λ s. without v s (addition_at e s))
    (λ s l. ap (join_site u v s (addition_at e s)) (by_site-at (λ _. None) s None l) ∙ right-none u v s (addition_at e s))

left-none : (u v : List ℕ) (s : ℕ) (x : Option Addition) → join_site u v s None x ≡ without u s x
left-none u v s None = refl
left-none u v s (Some a) = refl

pub join-none_left : (u v : List ℕ) (e : Entry) (t n : ℕ) → join_entry u v no_additions e ≡ entry_after Drop t n u e
join-none_left u v e t n =
    by_site-same (λ s. join_site u v s (addition_at no_additions s) (addition_at e s)) (λ s. without u s (addition_at e s))
    (λ s l. ap (λ o. join_site u v s o (addition_at e s)) (by_site-at (λ _. None) s None l) ∙ left-none u v s (addition_at e s))

-- What is parked after a change at one place.

use Rattle.std.proofs.Common.{ap, arith, cond, false, get_or, inl, inr, length, refl, slice_index_or, set, subst, sym, true, Bool, List, None, Option, Some, ℕ, ◌+◌, ◌<◌, ◌≤◌, ◌≡◌, ◌∙◌, ◌⊎◌}
use Rattle.std.proofs.lemmas.Bool.{cases_Bool, cases_eq, cases_lt, cond-false, cond-true}
use Rattle.std.proofs.lemmas.Bool.Decides.{nat_tests}
use Rattle.std.proofs.lemmas.List.{get_or-set_other, get_or-set_same}
use Rattle.std.specs.BTreeMap.{is_at}
use Rattle.std.specs.Option.{IfSome}
use Rattle.std.specs.Prelude.{IsSome, IsTrue, is_some, ◌↔◌}
use Rattle.zq_dots.specs.Placed.{Placed}
use Rattle.zq_node.proofs.Ready.{IsPlacedAt, some_place}
use Rattle.zq_node.specs.Parked.{ArePlaced, Entries, HasPlaceOf, IsNext, IsParked, IsPutAway, IsUpdated, Place, parked_at, place_cmp, place_of}

at_same : (p q : Place) → is_at (place_cmp p) q ≡ true → p ≡ q
at_same p q here =
    let heap : p.0 ≡ q.0 = grind (arith, nat_tests) in
    let site : p.1 ≡ q.1 = grind (arith, nat_tests) in
    let n : p.2 ≡ q.2 = grind (arith, nat_tests) in
    λ i. (heap i, site i, n i)

-- at each place there is what was given, or what there was
changed_at : (old new : Entries) (p : Place) (what : Option Placed) (q : Place) → IsUpdated old new p what → ((p ≡ q) × (parked_at new q ≡ what)) ⊎ (parked_at new q ≡ parked_at old q)
changed_at old new p what q is =
    elim (cases_Bool (is_at (place_cmp p) q)) [
      | inl here ↦ inl (at_same p q here, is q ∙ cond-true _ _ _ here)
      | inr apart ↦ inr (is q ∙ cond-false _ _ _ apart)
    ]

-- ---- one is taken out

pub placed_without : (old new : Entries) (p : Place) → IsUpdated old new p None → ArePlaced old → ArePlaced new
placed_without old new p is are q =
    elim (changed_at old new p None q is) [
      | inl here ↦ subst (λ x. IfSome x (IsPlacedAt q)) (sym here.1) tt
      | inr same ↦ subst (λ x. IfSome x (IsPlacedAt q)) (sym same) (are q)
    ]

-- what is parked then was parked before
pub parked_before : (old new : Entries) (p : Place) (o : Placed) → IsUpdated old new p None → IsParked new o → IsParked old o
parked_before old new p o is here =
    elim (changed_at old new p None (place_of o) is) [
      | inl gone ↦ absurd (let both : Some o ≡ None = sym here ∙ gone.1 in cc)
      | inr same ↦ sym same ∙ here
    ]

-- what was parked before stays, but for the one that was let go
pub parked_still : (old new : Entries) (o p : Placed) → IsUpdated old new (place_of o) None → IsParked old o → IsParked old p → IsParked new p ⊎ (p ≡ o)
parked_still old new o p is here there =
    elim (changed_at old new (place_of o) None (place_of p) is) [
      | inl gone ↦ inr (let both : Some p ≡ Some o = sym there ∙ (ap (parked_at old) (sym gone.0) ∙ here) in cc)
      | inr same ↦ inl (same ∙ there)
    ]

-- ---- one is parked

-- it is parked,
pub parked_here : (old new : Entries) (op : Placed) → IsUpdated old new (place_of op) (Some op) → IsParked new op
parked_here old new op is =
    let here : is_at (place_cmp (place_of op)) (place_of op) ≡ true = grind (arith, nat_tests) in
    is (place_of op) ∙ cond-true _ _ _ here

pub placed_with : (old new : Entries) (op : Placed) → IsUpdated old new (place_of op) (Some op) → IsNext op → ArePlaced old → ArePlaced new
placed_with old new op is its are q =
    elim (changed_at old new (place_of op) (Some op) q is) [
      | inl here ↦ subst (λ x. IfSome x (IsPlacedAt q)) (sym here.1) (here.0, its)
      | inr same ↦ subst (λ x. IfSome x (IsPlacedAt q)) (sym same) (are q)
    ]

flag_set : (sites : List Bool) (i j : ℕ) → i < length sites → (j ≡ i) ⊎ (slice_index_or sites j false ≡ true) → slice_index_or (set sites i true) j false ≡ true
flag_set sites i j below (inl same) = ap (λ k. get_or (set sites i true) k false) same ∙ get_or-set_same sites i true false below
flag_set sites i j below (inr was) =
    elim (cases_eq j i) [
      | inl same ↦ ap (λ k. get_or (set sites i true) k false) same ∙ get_or-set_same sites i true false below
      | inr apart ↦ get_or-set_other sites i j true false apart ∙ was
    ]

-- the sites of what is parked then are those that may have operations here
pub sites_with : (old new : Entries) (p : Place) (what : Option Placed) (sites : List Bool) → IsUpdated old new p what → p.1 < length sites → ((o : Placed) → IsParked old o → slice_index_or sites o.operation.site false ≡ true) → (o : Placed) → IsParked new o → slice_index_or (set sites p.1 true) o.operation.site false ≡ true
sites_with old new p what sites is below flags o here =
    flag_set sites p.1 o.operation.site below (elim (changed_at old new p what (place_of o) is) [
      | inl at ↦ inl (λ i. (sym at.0 i).1)
      | inr same ↦ inr (flags o (sym same ∙ here))
    ])

pub few_with : (b : Bool) (n m most : ℕ) → m ≡ n + cond b 0 1 → n < most → m ≤ most
few_with true n m most is below = omega arith
few_with false n m most is below = omega arith

-- where one was there one fewer is
pub one_fewer : (x : Option Placed) (m n : ℕ) → m + cond (is_some x) 1 0 ≡ n → IsSome x → m + 1 ≡ n
one_fewer None m n count here = absurd (cc)
one_fewer (Some p) m n count here = count

-- where none was as many are
pub none_fewer : (x : Option Placed) (m n : ℕ) → m + cond (is_some x) 1 0 ≡ n → x ≡ None → m ≡ n
none_fewer None m n count gone = let all : m + 0 ≡ n = count in omega (arith)
none_fewer (Some p) m n count gone = absurd (cc)

-- where none of its heap and dot was there one more is
pub one_more : (old : Entries) (o : Placed) (q : Place) (x : Option Placed) (m : ℕ) → ArePlaced old → q ≡ place_of o → x ≡ parked_at old q → m ≡ length old + cond (is_some x) 0 1 → (HasPlaceOf old o → ⊥) → m ≡ length old + 1
one_more old o q None m are at is count apart = count
one_more old o q (Some p) m are at is count apart = absurd (apart (some_place old o q (Some p) are at (sym is) refl))

-- where one was there as many are
pub none_more : (old : Entries) (o : Placed) (q : Place) (x : Option Placed) (m : ℕ) → q ≡ place_of o → x ≡ parked_at old q → m ≡ length old + cond (is_some x) 0 1 → HasPlaceOf old o → m ≡ length old
none_more old o q None m at is count there = absurd (let both : None ≡ Some there.0 = is ∙ (ap (parked_at old) (at ∙ sym there.2) ∙ there.1) in cc)
none_more old o q (Some p) m at is count there = let all : m ≡ length old + 0 = count in omega (arith)

-- ---- one is put away

-- where it is not full there is room
pub room_left : (full : Bool) (most count : ℕ) → IsTrue full ↔ (most ≤ count) → full ≡ false → count < most
room_left full most count is not = elim (cases_lt count most) [
  | inl few ↦ few
  | inr many ↦ absurd (let here : full ≡ true = is.1 many in cc)
]

-- what was parked stays
pub put_keeps : (most : ℕ) (o : Placed) (old new : Entries) (p : Placed) → IsPutAway most o old new → IsParked old p → IsParked new p
put_keeps most o old new p (inl again) here = subst (λ e. IsParked e p) (sym again.1) here
put_keeps most o old new p (inr (inl full)) here = subst (λ e. IsParked e p) (sym full.2) here
put_keeps most o old new p (inr (inr put)) here = elim (changed_at old new (place_of o) (Some o) (place_of p) put.2) [
  | inl at ↦ absurd (put.0 (p, here, sym at.0))
  | inr same ↦ same ∙ here
]

-- and nothing else comes
pub put_found : (most : ℕ) (o : Placed) (old new : Entries) (p : Placed) → IsPutAway most o old new → IsParked new p → IsParked old p ⊎ (o ≡ p)
put_found most o old new p (inl again) there = inl (subst (λ e. IsParked e p) again.1 there)
put_found most o old new p (inr (inl full)) there = inl (subst (λ e. IsParked e p) full.2 there)
put_found most o old new p (inr (inr put)) there = elim (changed_at old new (place_of o) (Some o) (place_of p) put.2) [
  | inl at ↦ inr (let both : Some o ≡ Some p = sym at.1 ∙ there in cc)
  | inr same ↦ inl (sym same ∙ there)
]

-- it is parked, or as many were as may be
pub put_heard : (most : ℕ) (o : Placed) (old new : Entries) → IsPutAway most o old new → HasPlaceOf new o ⊎ (most ≤ length old)
put_heard most o old new (inl again) = inl (subst (λ e. HasPlaceOf e o) (sym again.1) again.0)
put_heard most o old new (inr (inl full)) = inr full.1
put_heard most o old new (inr (inr put)) = inl (o, parked_here old new o put.2, refl)

-- where it was to be parked it is
pub put_here : (most : ℕ) (old new : Entries) (op copy : Placed) (kept : Bool) → (HasPlaceOf old op → ⊥) → length old < most → copy ≡ op → IsTrue kept ↔ (length old < most) → (IsTrue kept → IsUpdated old new (place_of copy) (Some copy)) →
    (IsTrue kept → (HasPlaceOf old copy → ⊥) → length new ≡ length old + 1) → IsPutAway most op old new
put_here most old new op copy kept apart few same full is more =
    let here : IsTrue kept = full.1 few in
    inr (inr (apart, few, subst (λ o. IsUpdated old new (place_of o) (Some o)) same (is here), more here (subst (λ o. HasPlaceOf old o → ⊥) (sym same) apart)))

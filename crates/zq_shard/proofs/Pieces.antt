-- A walk takes the last of what is left, time after time.

use Rattle.std.proofs.Common.{Err, Ok, Result, ap, arith, inl, inr, refl, suc, sym, zero, ◌∙◌}
use Rattle.std.proofs.lemmas.Bool.{cases_lt}
use Rattle.std.proofs.lemmas.Grind.{flat_map-append}
use Rattle.std.proofs.lemmas.List.{append-nil, append_assoc, map-append, reverse-append, take_all}
use Rattle.std.proofs.lemmas.Option.{none-some, same_Some}
use Rattle.std.specs.FinMap.{get}
use Rattle.std.specs.Prelude.{IfNone, IfOk, IfSome, List, None, Option, Some, [], flat_map, length, map, min, reverse, slice_get, take, ℕ, ◌+◌, ◌++◌, ◌<◌, ◌^◌, ◌∷◌, ◌≡◌, ◌≤◌}
use Rattle.zq_model.specs.Image.{Place}
use Rattle.zq_posheap.proofs.Lists.{there_is}
use Rattle.zq_shard.specs.Listed.{lent_place}
use Rattle.zq_shard.specs.Queues.{Keyed}
use Rattle.zq_shard.specs.Standing.{IsEnd, Order, firsts_of, left, of_key}
use Rattle.zq_shard.specs.Walk.{AreStanding, IsPiece}
use Rattle.zq_shard.specs.declared.row.RowRef.{RowRef}
use Rattle.zq_shard.specs.declared.spot.Spot.{Spot}

-- ---- lists

take_more : {X : Type 0} (xs : List X) (i : ℕ) (x : X) → slice_get xs i ≡ Some x → take (suc i) xs ≡ take i xs ++ x ∷ []
take_more [] i x at = absurd (none-some x at)
take_more (y ∷ xs) zero x at = ap (λ z. z ∷ []) (same_Some y x at)
take_more (y ∷ xs) (suc i) x at = ap (λ zs. y ∷ zs) (take_more xs i x at)

-- the first so many, of which the last is at i
last_of_first : {X : Type 0} (xs : List X) (n i : ℕ) (x : X) → i + 1 ≡ min n (length xs) → slice_get xs i ≡ Some x → take n xs ≡ take i xs ++ x ∷ []
last_of_first xs n i x is at = all ∙ take_more xs i x at
  where
    all : take n xs ≡ take (suc i) xs
    all = elim (cases_lt n (length xs)) as (λ _. take n xs ≡ take (suc i) xs) [
      | inl few ↦ let same : n ≡ suc i = omega (arith, is, few) in ap (λ k. take k xs) same
      | inr many ↦ take_all n xs (omega (arith, many)) ∙ sym (take_all (suc i) xs (omega (arith, is, many)))
    ]

none_of_first : {X : Type 0} (xs : List X) (n : ℕ) → min n (length xs) ≡ 0 → take n xs ≡ []
none_of_first [] n is = take_all n [] (omega arith)
none_of_first (x ∷ xs) zero is = refl
none_of_first (x ∷ xs) (suc n) is = absurd (omega (arith, is))

-- ---- members of a key

module _ (o : Option (List ℕ × List (List ℕ))) (e : List ℕ × List (List ℕ)) (is : o ≡ Some e) (n : ℕ) where
  pub firsts_last : (i : ℕ) (name : List ℕ) → i + 1 ≡ min n (length e.1) → slice_get e.1 i ≡ Some name → firsts_of n o ≡ firsts_of i o ++ (e.0, name) ∷ []
  firsts_last i name number at =
      ap (firsts_of n) is ∙ ap (map (λ member. (e.0, member))) (last_of_first e.1 n i name number at) ∙ map-append (λ member. (e.0, member)) (take i e.1) (name ∷ [])
      ∙ ap (λ ps. ps ++ (e.0, name) ∷ []) (sym (ap (firsts_of i) is))

  pub firsts_none : min n (length e.1) ≡ 0 → firsts_of n o ≡ []
  firsts_none none = ap (firsts_of n) is ∙ ap (map (λ member. (e.0, member))) (none_of_first e.1 n none)

  firsts_all : length e.1 ≤ n → of_key e ≡ firsts_of n o
  firsts_all few = ap (map (λ member. (e.0, member))) (sym (take_all n e.1 few)) ∙ sym (ap (firsts_of n) is)

-- no key has this number
pub firsts_past : (o : Option (List ℕ × List (List ℕ))) (n : ℕ) → o ≡ None → firsts_of n o ≡ []
firsts_past o n none = ap (firsts_of n) none

-- ---- what is left

-- the last of its key's, where one is left
pub step_down : (order : Order) (spot next : Spot) (p : Place) → next.key ≡ spot.key →
    firsts_of spot.member (slice_get order spot.key) ≡ firsts_of next.member (slice_get order spot.key) ++ p ∷ [] → left order spot ≡ left order next ++ p ∷ []
step_down order spot next p key last =
    ap (λ ps. flat_map of_key (take spot.key order) ++ ps) last
    ∙ sym (append_assoc (flat_map of_key (take spot.key order)) (firsts_of next.member (slice_get order spot.key)) (p ∷ []))
    ∙ (λ k. (flat_map of_key (take (sym key k) order) ++ firsts_of next.member (slice_get order (sym key k))) ++ p ∷ [])

-- else all of the key below it is left, above all of its members
pub key_down : (order : Order) (spot next : Spot) (e : List ℕ × List (List ℕ)) → firsts_of spot.member (slice_get order spot.key) ≡ [] → slice_get order next.key ≡ Some e →
    next.key + 1 ≡ min spot.key (length order) → length e.1 ≤ next.member → left order spot ≡ left order next
key_down order spot next e none at number few =
    ap (λ ps. flat_map of_key (take spot.key order) ++ ps) none ∙ append-nil (flat_map of_key (take spot.key order))
    ∙ ap (flat_map of_key) (last_of_first order spot.key next.key e number at) ∙ flat_map-append of_key (take next.key order) (e ∷ [])
    ∙ ap (λ ps. flat_map of_key (take next.key order) ++ ps) (append-nil (of_key e) ∙ firsts_all (slice_get order next.key) e at next.member few)

-- and nothing where there is no key below it
pub nothing_down : (order : Order) (spot : Spot) → firsts_of spot.member (slice_get order spot.key) ≡ [] → min spot.key (length order) ≡ 0 → left order spot ≡ []
nothing_down order spot none number =
    ap (λ ps. flat_map of_key (take spot.key order) ++ ps) none ∙ append-nil (flat_map of_key (take spot.key order)) ∙ ap (flat_map of_key) (none_of_first order spot.key number)

-- nothing is left at the end
pub nothing_left : (order : Order) (spot : Spot) → IsEnd spot → left order spot ≡ []
nothing_left order spot end =
    (λ k. flat_map of_key (take (end.0 k) order) ++ firsts_of (end.1 k) (slice_get order (end.0 k))) ∙ by (slice_get order 0)
  where
    by : (o : Option (List ℕ × List (List ℕ))) → firsts_of 0 o ≡ []
    by None = refl
    by (Some e) = refl

-- ---- the loop

-- one more row was handed out
pub row_handed : {X : Type 0} (shows : X → Place) (order : Order) (first spot next : Spot) (rows rows' : List X) (row : X) → rows' ≡ rows ++ row ∷ [] →
    left order spot ≡ left order next ++ shows row ∷ [] → left order first ≡ left order spot ++ reverse (map shows rows) → left order first ≡ left order next ++ reverse (map shows rows')
row_handed shows order first spot next rows rows' row more step so =
    so ∙ ap (λ ps. ps ++ reverse (map shows rows)) step ∙ append_assoc (left order next) (shows row ∷ []) (reverse (map shows rows))
    ∙ ap (λ ps. left order next ++ ps) (sym (reverse-append (map shows rows) (shows row ∷ [])) ∙ ap reverse (sym (map-append shows rows (row ∷ []))) ∙ ap (λ rs. reverse (map shows rs)) (sym more))

pub entry_handed : {X Y : Type 0} (f g : X → Y) (rows rows' : List X) (row : X) → rows' ≡ rows ++ row ∷ [] → f row ≡ g row → map f rows ≡ map g rows → map f rows' ≡ map g rows'
entry_handed f g rows rows' row more same so =
    ap (map f) more ∙ map-append f rows (row ∷ []) ∙ (λ k. so k ++ same k ∷ []) ∙ sym (map-append g rows (row ∷ [])) ∙ sym (ap (map g) more)

-- all was handed out
pub all_handed : {X : Type 0} (shows : X → Place) (order : Order) (first spot end : Spot) (rows : List X) → left order spot ≡ [] → IsEnd end →
    left order first ≡ left order spot ++ reverse (map shows rows) → left order first ≡ left order end ++ reverse (map shows rows)
all_handed shows order first spot end rows none is_end so = so ∙ ap (λ ps. ps ++ reverse (map shows rows)) (none ∙ sym (nothing_left order end is_end))

-- where a call gives none, this is so
pub none_any : {X P : Type 0} (r : Option X) → P → IfNone r P
none_any None p = p
none_any (Some x) p = tt

-- the last of the key below, of which all is left
pub last_down : {R : Type 0} (shows : R → Place) (order : Order) (spot : Spot) (key most : ℕ) (r : Option (R × Spot)) → firsts_of spot.member (slice_get order spot.key) ≡ [] →
    key + 1 ≡ min spot.key (length order) → 2 ^ 63 ≤ most →
    IfSome r (λ step. firsts_of most (slice_get order key) ≡ firsts_of step.1.member (slice_get order key) ++ shows step.0 ∷ []) → IfSome r (λ step. step.1.key ≡ key) →
    IfSome r (λ _. (e : List ℕ × List (List ℕ)) → slice_get order key ≡ Some e → length e.1 < 2 ^ 63) →
    IfSome r (λ step. left order spot ≡ left order step.1 ++ shows step.0 ∷ [])
last_down shows order spot key most None none number large last its small = tt
last_down shows order spot key most (Some step) none number large last its small =
    let above : Spot = record { key = key; member = most } in
    let e = there_is order key (omega (arith, number)) in
    let few : length e.0.1 ≤ most = omega (arith, small e.0 e.1, large) in
    key_down order spot above e.0 none e.1 number few ∙ step_down order above step.1 (shows step.0) its last

-- what was handed out is a piece
pub is_piece : {P E : Type 0} (rows : P → List RowRef) (next : P → Spot) (r : Result P E) (s : Keyed) (vector : List ℕ) (spot : Spot) → AreStanding s →
    IfOk r (λ p. left s.order spot ≡ left s.order (next p) ++ reverse (map lent_place (rows p))) →
    IfOk r (λ p. map (λ row. get s.members (lent_place row)) (rows p) ≡ map (λ row. Some row.entry.now) (rows p)) →
    IfOk r (λ p. IsPiece (record { vector = vector; members = s.members }) spot (rows p) (next p))
is_piece rows next (Ok p) s vector spot all parts entries = record { order = s.order; all = all; parts = parts; entries = entries }
is_piece rows next (Err e) s vector spot all parts entries = tt

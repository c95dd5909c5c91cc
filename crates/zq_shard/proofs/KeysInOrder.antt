-- The keys of a map of the code, listed and sorted.

use Rattle.std.proofs.Common.{Bor, Equal, Greater, Less, List, [], ap, arith, false, get_or, is_some, length, map, refl, sym, true≢false, ℕ, ◌+◌, ◌<◌, ◌∙◌, ◌∷◌, ◌≡◌, ◌≢◌}
use Rattle.std.proofs.lemmas.Cmp.{nat_list_cmp_total, nat_list_eq_equiv}
use Rattle.std.proofs.lemmas.List.{length-map}
use Rattle.std.proofs.lemmas.List.Sorted.{IsPermutation-map, list_any-IsPermutation}
use Rattle.std.proofs.lemmas.Map.Keys.{IsDistinct-IsPermutation, sorted_from_all_adjacent}
use Rattle.std.proofs.lemmas.Map.Lookups.{exact_bytes}
use Rattle.std.proofs.lemmas.Map.Made.{AllPairs-from_IsDistinct}
use Rattle.std.proofs.lemmas.Option.{get_or_from_slice_get, slice_get-map}
use Rattle.std.specs.Cmp.Lexicographic.{bytes_decides, pointwise}
use Rattle.std.specs.FinMap.{find}
use Rattle.std.specs.FinMap.Entries.{is_some-find}
use Rattle.std.specs.List.{AllByRecursion, IsDistinct, list_any}
use Rattle.std.specs.List.Sorted.{IsPermutation, IsSorted, IsSortedBy, IsStrictlySortedBy}
use Rattle.std.specs.Map.{keys_of}
use Rattle.std.specs.Ordering.{eq_by_cmp, is_lt, ordering_reverse}
use Rattle.std.specs.Prelude.{Some, nat_eq, option_map, slice_get}
use Rattle.zq_posheap.proofs.Lists.{there_is}
use Rattle.zq_posheap.specs.Order.{same_key}
use Rattle.zq_queue.specs.Entries.{bytes_cmp}
use Rattle.zq_shard.specs.Listed.{lent_key}

-- the keys of the code are apart by their bytes
module _ {X : Type 0} where
  apart_from : (q : List ℕ) (es : List (List ℕ × X)) → AllByRecursion (λ key. pointwise nat_eq q key ≡ false) (keys_of es) → AllByRecursion (λ k. pointwise nat_eq q k ≡ false) (map (λ e. e.0) es)
  apart_from q [] all = tt
  apart_from q (e ∷ es) all = (all.0, apart_from q es all.1)

  pub distinct_keys : (es : List (List ℕ × X)) → IsDistinct same_key (keys_of es) → IsDistinct (pointwise nat_eq) (map (λ e. e.0) es)
  unfolding IsDistinct
  distinct_keys [] distinct = tt
  distinct_keys (e ∷ es) distinct = (apart_from e.0 es distinct.0, distinct_keys es distinct.1)

-- a key that is not after another, and is not it, is before it
before : (x y : List ℕ) → is_lt (bytes_cmp y x) ≡ false → y ≢ x → bytes_cmp x y ≡ Less
before x y after apart =
    elim (bytes_cmp x y) as (λ r. bytes_cmp x y ≡ r → r ≡ Less) [
      | Less ↦ λ e. refl
      | Equal ↦ λ e. absurd (apart (sym (exact_bytes x y e)))
      | Greater ↦ λ e. absurd (true≢false (sym (ap is_lt (nat_list_cmp_total.antisymm y x ∙ ap ordering_reverse e)) ∙ after))
    ] refl

sorted_keys : (sorted : List (Bor (List ℕ))) → IsSorted (λ x y. bytes_cmp (lent_key x) (lent_key y)) sorted → IsSortedBy (λ x y. is_lt (bytes_cmp x y)) (map lent_key sorted)
sorted_keys sorted up k d lo within =
    let within' : k + 1 < length sorted = omega (arith, within, length-map sorted lent_key) in
    let x = there_is sorted k (omega (arith, within')) in
    let y = there_is sorted (k + 1) within' in
    let at : (i : ℕ) (z : Bor (List ℕ)) → slice_get sorted i ≡ Some z → get_or (map lent_key sorted) i d ≡ lent_key z =
    λ i z here. get_or_from_slice_get (map lent_key sorted) i (lent_key z) d (slice_get-map lent_key sorted i ∙ ap (option_map lent_key) here) in
    let same : (i : ℕ) (z : Bor (List ℕ)) → slice_get sorted i ≡ Some z → get_or sorted i x.0 ≡ z = λ i z here. get_or_from_slice_get sorted i z x.0 here in
    (λ j. is_lt (bytes_cmp (at (k + 1) y.0 y.1 j) (at k x.0 x.1 j)))
    ∙ (λ j. is_lt (bytes_cmp (lent_key (sym (same (k + 1) y.0 y.1) j)) (lent_key (sym (same k x.0 x.1) j)))) ∙ up k x.0 (omega arith) within'

module _ (keys sorted : List (Bor (List ℕ))) (moved : IsPermutation keys sorted) where
  -- keys that are apart rise once they are sorted
  pub keys_rise : IsDistinct (pointwise nat_eq) (map lent_key keys) → IsSorted (λ x y. bytes_cmp (lent_key x) (lent_key y)) sorted → IsStrictlySortedBy bytes_cmp (map lent_key sorted)
  keys_rise distinct up =
      let ys = map lent_key sorted in
      let apart = IsDistinct-IsPermutation (pointwise nat_eq) nat_list_eq_equiv.symm (map lent_key keys) ys (IsPermutation-map lent_key keys sorted moved) distinct in
      sorted_from_all_adjacent nat_list_cmp_total ys [] (λ k within.
      before (get_or ys k []) (get_or ys (k + 1) []) (sorted_keys sorted up k [] (omega arith) within)
      (λ same. AllPairs-from_IsDistinct bytes_decides ys apart k (k + 1) [] (omega arith) within (sym same)))

  -- and the same keys are found
  pub keys_found : {X : Type 0} (es : List (List ℕ × X)) → map lent_key keys ≡ map (λ e. e.0) es → (q : List ℕ) →
      list_any (eq_by_cmp bytes_cmp q) (map lent_key sorted) ≡ is_some (find bytes_cmp q es)
  keys_found es same q =
      sym (list_any-IsPermutation (eq_by_cmp bytes_cmp q) (map lent_key keys) (map lent_key sorted) (IsPermutation-map lent_key keys sorted moved))
      ∙ ap (list_any (eq_by_cmp bytes_cmp q)) same ∙ sym (is_some-find bytes_cmp q es)

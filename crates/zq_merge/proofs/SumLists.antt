-- Sums with their sites, as they are read.

use Rattle.std.proofs.Common.{ap, arith, cond, Err, false, get_or, suc, zero, inl, inr, length, List, map, Ok, refl, subst, sym, take, true, [], ℕ, ℤ, ◌*◌, ◌+◌, ◌++◌, ◌<◌, ◌≤◌, ◌∙◌, ◌∷◌, ◌≡◌, ◌≢◌}
use Rattle.std.proofs.lemmas.Bool.{cases_eq, cases_lt}
use Rattle.std.proofs.lemmas.Bool.Decides.{Decides-int_eq}
use Rattle.std.proofs.lemmas.List.{get_or_past, map-append}
use Rattle.std.proofs.lemmas.List.FromFn.{get_or-map-range_with_len, length-map-range_with_len, take-map-range_with_len}
use Rattle.std.specs.Int.{w128}
use Rattle.std.specs.List.{AllByRecursion, flat_map, range_with_len}
use Rattle.std.specs.Ordering.{int_eq}
use Rattle.std.specs.Prelude.{IsOk, pos, slice_index, slice_index_or, unwrap_or}
use Rattle.zq_dots.proofs.Counters.{sites_is}
use Rattle.zq_entry.specs.Sums.{AreSums, IsSum, dense_sums, sum_found}
use Rattle.zq_fields.specs.Fields.{signed}
use Rattle.zq_merge.proofs.Repeated.{IsReadTo, is_read, read_done, read_fails, read_more, read_start, refused_next}
use Rattle.zq_merge.proofs.RisingSites.{each_more, found_last, found_other, found_past, next_more, rising_more, rising_wider}
use Rattle.zq_merge.specs.Bounds.{AreSumsBounded}
use Rattle.zq_merge.specs.Fields.{all_sums_at, each_sum_at, later_sum_at, next_sum_at, site_sum_at}
use Rattle.zq_merge.specs.Reading.{many_at, next_site, sum_in}
use Rattle.zq_merge.specs.Refused.{IsInFirstSums, IsInSomeSums}
use Rattle.zq_merge.specs.Spelling.{each_sum, sum_bytes}
use Rattle.zq_merge.specs.Sums.{with_sum}
use Rattle.zq_merge.specs.declared.fault.StateFault.{StateFault}
use Rattle.zq_model.proofs.Bounds.{within_zero}
use Rattle.zq_model.specs.Operation.{IsWithin, MOST}
use Rattle.zq_model.specs.Sets.{SITES, by_site}
use Rattle.zq_model.specs.Sparse.{AreBySite, found}
use Rattle.zq_fields.proofs.Counters.{dense_sites_is}
use Rattle.zq_fields.specs.Vectors.{DENSE_SITES}

-- ---- sums that are kept

-- sums of sites below low, each in range and none of them 0
pub record AreSumsTo (vector : List ℕ) (low : ℕ) (items : List (ℕ × ℤ)) : Type 0 where
  pub rising : AreBySite 0 low items
  pub each : AllByRecursion IsSum items
  pub bounded : AreSumsBounded vector items

pub sums_none : (vector : List ℕ) (low : ℕ) → AreSumsTo vector low []
sums_none vector low = record { rising = tt; each = tt; bounded = λ t. within_zero (MOST * slice_index vector t) }

pub sums_more : (vector : List ℕ) (low s : ℕ) (z : ℤ) (items : List (ℕ × ℤ)) → low ≤ s → IsSum (s, z) → IsWithin (MOST * slice_index vector s) z → AreSumsTo vector low items → AreSumsTo vector (s + 1) (items ++ (s, z) ∷ [])
sums_more vector low s z items from sum within a = record {
  rising = rising_more 0 low s z items (omega arith) from a.rising;
  each = each_more IsSum items (s, z) a.each sum;
  bounded = λ t. elim (cases_eq t s) [
    | inl same ↦
        let here : sum_found t (items ++ (s, z) ∷ []) ≡ z = ap (λ u. sum_found u (items ++ (s, z) ∷ [])) same ∙ ap (λ o. unwrap_or o (pos 0)) (found_last 0 low s z items from a.rising) in
        subst (IsWithin (MOST * slice_index vector t)) (sym here) (subst (λ u. IsWithin (MOST * slice_index vector u) z) (sym same) within)
    | inr other ↦
        let rest : sum_found t (items ++ (s, z) ∷ []) ≡ sum_found t items = ap (λ o. unwrap_or o (pos 0)) (found_other t s z items other) in
        subst (IsWithin (MOST * slice_index vector t)) (sym rest) (a.bounded t)
  ];
}

pub sums_wider : (vector : List ℕ) (low high : ℕ) (items : List (ℕ × ℤ)) → low ≤ high → AreSumsTo vector low items → AreSumsTo vector high items
sums_wider vector low high items within a = record { rising = rising_wider 0 low high items within a.rising; each = a.each; bounded = a.bounded }

pub sums_are : (vector : List ℕ) (low : ℕ) (items : List (ℕ × ℤ)) → low ≤ SITES → AreSumsTo vector low items → AreSums items
sums_are vector low items few a = record { rising = rising_wider 0 low SITES items few a.rising; each = a.each }

-- ---- sums that are written with their sites

-- i of so many are read, all of sites below low
pub record AreListedTo (whole : ℕ) (vector : List ℕ) (count i low : ℕ) (all bytes : List ℕ) (items : List (ℕ × ℤ)) : Type 0 where
  pub read : IsReadTo (later_sum_at whole vector) sum_bytes count i all bytes items
  pub low_is : low ≡ next_site items
  pub low_within : low ≤ SITES
  pub sums : AreSumsTo vector low items

pub listed_none : (whole : ℕ) (vector : List ℕ) (count : ℕ) (all : List ℕ) → AreListedTo whole vector count 0 0 all all []
listed_none whole vector count all = record {
  read = read_start (later_sum_at whole vector) sum_bytes count all;
  low_is = refl;
  low_within = omega arith;
  sums = sums_none vector 0;
}

pub listed_more : (whole : ℕ) (vector : List ℕ) (count i low s : ℕ) (z : ℤ) (all bytes rest : List ℕ) (items : List (ℕ × ℤ)) → i < count → site_sum_at whole vector low bytes ≡ Ok ((s, z), rest) → bytes ≡ sum_bytes (s, z) ++ rest → low ≤ s → s < SITES → IsSum (s, z) → IsWithin (MOST * slice_index vector s) z → AreListedTo whole vector count i low all bytes items → AreListedTo whole vector count (i + 1) (s + 1) all rest (items ++ (s, z) ∷ [])
listed_more whole vector count i low s z all bytes rest items below e is from site sum within a = record {
  read = read_more (later_sum_at whole vector) sum_bytes count i all bytes rest items (s, z) below (ap (λ l. site_sum_at whole vector l bytes) (sym a.low_is) ∙ e) is a.read;
  low_is = sym (next_more items (s, z));
  low_within = omega arith;
  sums = sums_more vector low s z items from sum within a.sums;
}

pub listed_fails : (whole : ℕ) (vector : List ℕ) (count i low : ℕ) (all bytes : List ℕ) (items : List (ℕ × ℤ)) (fault : StateFault) → i < count → site_sum_at whole vector low bytes ≡ Err fault → AreListedTo whole vector count i low all bytes items → many_at (later_sum_at whole vector) count [] all ≡ Err fault
listed_fails whole vector count i low all bytes items fault below e a =
    read_fails (later_sum_at whole vector) sum_bytes count i all bytes items fault below (ap (λ l. site_sum_at whole vector l bytes) (sym a.low_is) ∙ e) a.read

-- memory is refused for the sum that is read next
pub listed_refused : (whole : ℕ) (vector : List ℕ) (count i low : ℕ) (p : ℕ × ℤ) (all bytes rest : List ℕ) (items : List (ℕ × ℤ)) → i < count → site_sum_at whole vector low bytes ≡ Ok (p, rest) → AreListedTo whole vector count i low all bytes items → IsInSomeSums whole vector count all
listed_refused whole vector count i low p all bytes rest items below e a =
    let here = ap (λ l. site_sum_at whole vector l bytes) (sym a.low_is) ∙ e in
    refused_next (later_sum_at whole vector) sum_bytes (λ sums rest. IsOk (later_sum_at whole vector sums rest)) count i all bytes items below (is_read _ (p, rest) here) a.read

-- ---- a sum for each of the first sites

-- the sums of the sites below i
abbrev pub first_sums : ℕ → List (ℕ × ℤ) → List ℤ
first_sums i items = map (λ s. sum_found s items) (range_with_len 0 i)

-- the sums of the sites below i are read
pub record AreFirstTo (vector : List ℕ) (i : ℕ) (all bytes : List ℕ) (items : List (ℕ × ℤ)) : Type 0 where
  pub read : IsReadTo (next_sum_at vector) (signed w128) DENSE_SITES i all bytes (first_sums i items)
  pub sums : AreSumsTo vector i items

pub first_none : (vector all : List ℕ) → AreFirstTo vector 0 all all []
first_none vector all = record { read = read_start (next_sum_at vector) (signed w128) DENSE_SITES all; sums = sums_none vector 0 }

same_below : (f g : ℕ → ℤ) (a n : ℕ) → ((s : ℕ) → a ≤ s → s < a + n → f s ≡ g s) → map f (range_with_len a n) ≡ map g (range_with_len a n)
same_below f g a zero h = refl
same_below f g a (suc n) h =
    let here = h a (omega arith) (omega arith) in
    let rest = same_below f g (a + 1) n (λ s l u. h s (omega arith) (omega arith)) in
    ap (λ x. x ∷ map f (range_with_len (a + 1) n)) here ∙ ap (λ xs. g a ∷ xs) rest

push_range : (a n : ℕ) → range_with_len a (n + 1) ≡ range_with_len a n ++ (a + n) ∷ []
push_range a zero = let here : a ≡ a + 0 = omega arith in ap (λ s. s ∷ []) here
push_range a (suc n) = let next : a + 1 + n ≡ a + suc n = omega arith in let size : suc n + 1 ≡ suc (n + 1) = omega arith in ap (range_with_len a) size ∙ ap (λ xs. a ∷ xs) (push_range (a + 1) n ∙ ap (λ s. range_with_len (a + 1) n ++ s ∷ []) next)

first_push : (f : ℕ → ℤ) (i : ℕ) → map f (range_with_len 0 (i + 1)) ≡ map f (range_with_len 0 i) ++ f i ∷ []
first_push f i =
    let here : 0 + i ≡ i = omega arith in
    ap (map f) (push_range 0 i ∙ ap (λ s. range_with_len 0 i ++ s ∷ []) here) ∙ map-append f (range_with_len 0 i) (i ∷ [])

zero_first : (vector : List ℕ) (i : ℕ) (items : List (ℕ × ℤ)) → AreSumsTo vector i items → first_sums (i + 1) items ≡ first_sums i items ++ pos 0 ∷ []
zero_first vector i items a =
    first_push (λ s. sum_found s items) i ∙ ap (λ o. first_sums i items ++ unwrap_or o (pos 0) ∷ []) (found_past 0 i i items (omega arith) a.rising)

some_first : (vector : List ℕ) (i : ℕ) (z : ℤ) (items : List (ℕ × ℤ)) → AreSumsTo vector i items → first_sums (i + 1) (items ++ (i, z) ∷ []) ≡ first_sums i items ++ z ∷ []
some_first vector i z items a =
    let more = items ++ (i, z) ∷ [] in
    first_push (λ s. sum_found s more) i
    ∙ (ap (λ o. first_sums i more ++ unwrap_or o (pos 0) ∷ []) (found_last 0 i i z items (omega arith) a.rising)
    ∙ ap (λ xs. xs ++ z ∷ []) (same_below (λ s. sum_found s more) (λ s. sum_found s items) 0 i (λ s from below. ap (λ o. unwrap_or o (pos 0)) (found_other s i z items (λ e. omega arith)))))

pub first_more : (vector : List ℕ) (i : ℕ) (z : ℤ) (all bytes rest : List ℕ) (items : List (ℕ × ℤ)) → i < DENSE_SITES → sum_in (MOST * slice_index vector i) bytes ≡ Ok (z, rest) → bytes ≡ signed w128 z ++ rest → (z ≢ pos 0 → IsSum (i, z)) → IsWithin (MOST * slice_index vector i) z → AreFirstTo vector i all bytes items → AreFirstTo vector (i + 1) all rest (with_sum i z items)
first_more vector i z all bytes rest items below e is sum within a =
    let size : length (first_sums i items) ≡ i = length-map-range_with_len (λ s. sum_found s items) 0 i in
    let here : next_sum_at vector (first_sums i items) bytes ≡ Ok (z, rest) = ap (λ n. sum_in (MOST * slice_index vector n) bytes) size ∙ e in
    let read = read_more (next_sum_at vector) (signed w128) DENSE_SITES i all bytes rest (first_sums i items) z below here is a.read in
    elim (int_eq z (pos 0)) as (λ b. int_eq z (pos 0) ≡ b → AreFirstTo vector (i + 1) all rest (cond b items (items ++ (i, z) ∷ []))) [
      | true ↦ λ zero'.
          let none : z ≡ pos 0 = (Decides-int_eq z (pos 0)).0 zero' in
          record {
            read = subst (IsReadTo (next_sum_at vector) (signed w128) DENSE_SITES (i + 1) all rest) (ap (λ x. first_sums i items ++ x ∷ []) none ∙ sym (zero_first vector i items a.sums)) read;
            sums = sums_wider vector i (i + 1) items (omega arith) a.sums;
          }
      | false ↦ λ other.
          let some : z ≢ pos 0 = λ none. (let yes = (Decides-int_eq z (pos 0)).1 none in cc) in
          record {
            read = subst (IsReadTo (next_sum_at vector) (signed w128) DENSE_SITES (i + 1) all rest) (sym (some_first vector i z items a.sums)) read;
            sums = sums_more vector i i z items (omega arith) (sum some) within a.sums;
          }
    ] refl

pub first_fails : (vector : List ℕ) (i : ℕ) (all bytes : List ℕ) (items : List (ℕ × ℤ)) (fault : StateFault) → i < DENSE_SITES → sum_in (MOST * slice_index vector i) bytes ≡ Err fault → AreFirstTo vector i all bytes items → all_sums_at vector all ≡ Err fault
unfolding each_sum_at
first_fails vector i all bytes items fault below e a =
    let size : length (first_sums i items) ≡ i = length-map-range_with_len (λ s. sum_found s items) 0 i in
    let here : next_sum_at vector (first_sums i items) bytes ≡ Err fault = ap (λ n. sum_in (MOST * slice_index vector n) bytes) size ∙ e in
    rw (read_fails (next_sum_at vector) (signed w128) DENSE_SITES i all bytes (first_sums i items) fault below here a.read) refl

-- what is read for the first sites is what the sums are
spread_sums : (vector : List ℕ) (items : List (ℕ × ℤ)) → AreSumsTo vector DENSE_SITES items → by_site (λ s. slice_index_or (first_sums DENSE_SITES items) s (pos 0)) ≡ dense_sums items
spread_sums vector items a =
    same_below (λ s. slice_index_or (first_sums DENSE_SITES items) s (pos 0)) (λ s. sum_found s items) 0 SITES
    (λ s from below. elim (cases_lt s DENSE_SITES) [
      | inl first ↦ get_or-map-range_with_len (λ t. sum_found t items) 0 DENSE_SITES s s (pos 0) first (omega arith)
      | inr past ↦ get_or_past (first_sums DENSE_SITES items) s (pos 0) (let size = length-map-range_with_len (λ t. sum_found t items) 0 DENSE_SITES in omega arith) ∙ sym (ap (λ o. unwrap_or o (pos 0)) (found_past 0 DENSE_SITES s items past a.rising))
    ])

pub first_read : (vector : List ℕ) (i : ℕ) (all bytes : List ℕ) (items : List (ℕ × ℤ)) → i ≡ DENSE_SITES → AreFirstTo vector i all bytes items → all_sums_at vector all ≡ Ok (dense_sums items, bytes)
unfolding each_sum_at
first_read vector i all bytes items done a =
    let sums = subst (λ n. AreSumsTo vector n items) done a.sums in
    let read = read_done (next_sum_at vector) (signed w128) DENSE_SITES i all bytes (first_sums i items) (omega arith) a.read in
    rw read (ap (λ n. Ok (by_site (λ s. slice_index_or (first_sums n items) s (pos 0)), bytes)) done ∙ ap (λ xs. Ok (xs, bytes)) (spread_sums vector items sums))

pub first_found : (vector : List ℕ) (i : ℕ) (all bytes : List ℕ) (items : List (ℕ × ℤ)) → i ≡ DENSE_SITES → AreFirstTo vector i all bytes items → all ≡ each_sum (dense_sums items) ++ bytes
unfolding each_sum
first_found vector i all bytes items done a =
    let eight = dense_sites_is in
    let sites = sites_is in
    let front : take DENSE_SITES (dense_sums items) ≡ first_sums DENSE_SITES items = take-map-range_with_len (λ s. sum_found s items) 0 SITES DENSE_SITES (omega arith) in
    a.read.found ∙ (ap (λ n. flat_map (signed w128) (first_sums n items) ++ bytes) done ∙ ap (λ xs. flat_map (signed w128) xs ++ bytes) (sym front))

-- memory is refused for the sum of the next site
pub first_refused : (vector : List ℕ) (i : ℕ) (z : ℤ) (all bytes rest : List ℕ) (items : List (ℕ × ℤ)) → i < DENSE_SITES → sum_in (MOST * slice_index vector i) bytes ≡ Ok (z, rest) → AreFirstTo vector i all bytes items → IsInFirstSums vector all
first_refused vector i z all bytes rest items below e a =
    let size : length (first_sums i items) ≡ i = length-map-range_with_len (λ s. sum_found s items) 0 i in
    let here : next_sum_at vector (first_sums i items) bytes ≡ Ok (z, rest) = ap (λ n. sum_in (MOST * slice_index vector n) bytes) size ∙ e in
    refused_next (next_sum_at vector) (signed w128) (λ sums rest. IsOk (next_sum_at vector sums rest)) DENSE_SITES i all bytes (first_sums i items) below (is_read _ (z, rest) here) a.read

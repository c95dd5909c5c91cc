-- Sums that were written are read again.

use Rattle.std.proofs.Common.{ap, arith, cond, eq-eqb, ne_eqb, false, get_or, inl, inr, length, List, None, Ok, refl, subst, suc, sym, take, true, zero, [], ℕ, ℤ, ◌*◌, ◌+◌, ◌++◌, ◌<◌, ◌==◌, ◌≤◌, ◌∙◌, ◌∷◌, ◌≡◌, ◌≢◌}
use Rattle.std.proofs.lemmas.Bool.{cases_Bool, cases_lt, cond-false, cond-true}
use Rattle.std.proofs.lemmas.Bool.Decides.{Decides-int_eq}
use Rattle.std.proofs.lemmas.Int.{ints}
use Rattle.std.proofs.lemmas.List.{get_or-take, get_or_past, length-take, length-take-le, length_push}
use Rattle.std.specs.Int.{w128}
use Rattle.std.specs.List.{flat_map}
use Rattle.std.specs.Ordering.{int_eq}
use Rattle.std.specs.Prelude.{pos, slice_index, slice_index_or, unwrap_or}
use Rattle.zq_dots.proofs.Counters.{sites_is}
use Rattle.zq_entry.specs.Sums.{dense_sums, nonzero_from, nonzero_sums, sum_found}
use Rattle.zq_fields.specs.Fields.{signed}
use Rattle.zq_merge.proofs.AgainParts.{site_sum_again, sum_again}
use Rattle.zq_merge.proofs.Repeated.{AreAgain, many_again}
use Rattle.zq_merge.proofs.RisingSites.{next_more}
use Rattle.zq_merge.specs.Fields.{all_sums_at, each_sum_at, later_sum_at, listed_sums_at, next_sum_at, some_sums_at, sums_at}
use Rattle.zq_merge.specs.Reading.{many_at, next_site}
use Rattle.zq_merge.specs.Spelling.{each_sum, listed_sums, sum_bytes, sums_bytes}
use Rattle.zq_merge.specs.Version.{HasVector}
use Rattle.zq_merge.specs.declared.version.Version.{Version}
use Rattle.zq_merge.specs.declared.version.Version.TheVariants.{One, Three, Two}
use Rattle.zq_model.proofs.Sites.{by_site_from}
use Rattle.zq_model.specs.Operation.{IsWithin, MOST}
use Rattle.zq_model.specs.Sets.{IsCounters, SITES, by_site}
use Rattle.zq_model.specs.Sparse.{found}
use Rattle.zq_fields.proofs.PartsAgain.{byte_in_again}
use Rattle.zq_fields.proofs.Counters.{dense_sites_is}
use Rattle.zq_fields.specs.Reading.{byte_in}
use Rattle.zq_fields.specs.Vectors.{DENSE_SITES, IsDense}

-- ---- sums that are not 0, with their sites

-- each sum of the sites from a on is within its bound
abbrev AreWithinFrom : List ℕ → ℕ → List ℤ → Type 0
AreWithinFrom vector a sums = (i : ℕ) → i < length sums → IsWithin (MOST * slice_index vector (a + i)) (get_or sums i (pos 0))

within_rest : (vector : List ℕ) (a : ℕ) (x : ℤ) (sums : List ℤ) → AreWithinFrom vector a (x ∷ sums) → AreWithinFrom vector (a + 1) sums
within_rest vector a x sums within i below =
    let place : a + suc i ≡ a + 1 + i = omega arith in
    subst (λ p. IsWithin (MOST * slice_index vector p) (get_or sums i (pos 0))) place (within (suc i) (omega arith))

within_first : (vector : List ℕ) (a : ℕ) (x : ℤ) (sums : List ℤ) → AreWithinFrom vector a (x ∷ sums) → IsWithin (MOST * slice_index vector a) x
within_first vector a x sums within =
    let place : a + 0 ≡ a = omega arith in
    subst (λ p. IsWithin (MOST * slice_index vector p) x) place (within 0 (omega arith))

zero_first : (a : ℕ) (x : ℤ) (sums : List ℤ) → x ≡ pos 0 → nonzero_from a (x ∷ sums) ≡ nonzero_from (a + 1) sums
zero_first a x sums none = cond-true (int_eq x (pos 0)) _ _ ((Decides-int_eq x (pos 0)).1 none)

some_first : (a : ℕ) (x : ℤ) (sums : List ℤ) → int_eq x (pos 0) ≡ false → nonzero_from a (x ∷ sums) ≡ (a, x) ∷ nonzero_from (a + 1) sums
some_first a x sums some = cond-false (int_eq x (pos 0)) _ _ some

not_zero : (x : ℤ) → int_eq x (pos 0) ≡ false → x ≢ pos 0
not_zero x some none = let equal = (Decides-int_eq x (pos 0)).1 none in cc

-- those from a on, behind sums of lower sites, are read again
listed_again : (whole : ℕ) (vector : List ℕ) (a : ℕ) (before : List (ℕ × ℤ)) (sums : List ℤ) → IsCounters vector → next_site before ≤ a → a + length sums ≡ SITES → AreWithinFrom vector a sums → AreAgain (later_sum_at whole vector) sum_bytes before (nonzero_from a sums)
listed_again whole vector a before [] counters from wide within = tt
listed_again whole vector a before (x ∷ sums) counters from wide within =
    elim (cases_Bool (int_eq x (pos 0))) [
      | inl none ↦
          subst (AreAgain (later_sum_at whole vector) sum_bytes before) (sym (zero_first a x sums ((Decides-int_eq x (pos 0)).0 none)))
          (listed_again whole vector (a + 1) before sums counters (omega arith) (omega arith) (within_rest vector a x sums within))
      | inr some ↦
          let next = next_more before (a, x) in
          subst (AreAgain (later_sum_at whole vector) sum_bytes before) (sym (some_first a x sums some)) (
            λ rest. site_sum_again whole vector (next_site before) a x rest counters from (omega arith) (not_zero x some) (within_first vector a x sums within),
            listed_again whole vector (a + 1) (before ++ (a, x) ∷ []) sums counters (omega arith) (omega arith) (within_rest vector a x sums within),
          )
    ]

listed_length : (a : ℕ) (sums : List ℤ) → length (nonzero_from a sums) ≤ length sums
listed_length a [] = omega arith
listed_length a (x ∷ sums) =
    let rest = listed_length (a + 1) sums in
    elim (cases_Bool (int_eq x (pos 0))) [
      | inl none ↦ (let e = ap length (zero_first a x sums ((Decides-int_eq x (pos 0)).0 none)) in omega arith)
      | inr some ↦ (let e = ap length (some_first a x sums some) in omega arith)
    ]

-- no sum is kept of a site before a
found_below : (a t : ℕ) (sums : List ℤ) → t < a → found t (nonzero_from a sums) ≡ None
found_below a t [] below = refl
found_below a t (x ∷ sums) below =
    elim (cases_Bool (int_eq x (pos 0))) [
      | inl none ↦ ap (found t) (zero_first a x sums ((Decides-int_eq x (pos 0)).0 none)) ∙ found_below (a + 1) t sums (omega arith)
      | inr some ↦ ap (found t) (some_first a x sums some) ∙ (cond-false (a == t) _ _ (ne_eqb a t (λ e. absurd (omega arith))) ∙ found_below (a + 1) t sums (omega arith))
    ]

-- the sum of a site is found among those that are kept
found_kept : (a t i : ℕ) (sums : List ℤ) → t ≡ a + i → sum_found t (nonzero_from a sums) ≡ get_or sums i (pos 0)
found_kept a t i [] is = refl
found_kept a t zero (x ∷ sums) is =
    elim (cases_Bool (int_eq x (pos 0))) [
      | inl none ↦
          let zero' = (Decides-int_eq x (pos 0)).0 none in
          ap (sum_found t) (zero_first a x sums zero') ∙ (ap (λ o. unwrap_or o (pos 0)) (found_below (a + 1) t sums (omega arith)) ∙ sym zero')
      | inr some ↦ ap (sum_found t) (some_first a x sums some) ∙ ap (λ o. unwrap_or o (pos 0)) (cond-true (a == t) _ _ (eq-eqb a t (omega arith)))
    ]
found_kept a t (suc i) (x ∷ sums) is =
    elim (cases_Bool (int_eq x (pos 0))) [
      | inl none ↦ ap (sum_found t) (zero_first a x sums ((Decides-int_eq x (pos 0)).0 none)) ∙ found_kept (a + 1) t i sums (omega arith)
      | inr some ↦
          ap (sum_found t) (some_first a x sums some)
          ∙ (ap (λ o. unwrap_or o (pos 0)) (cond-false (a == t) _ _ (ne_eqb a t (λ e. absurd (omega arith)))) ∙ found_kept (a + 1) t i sums (omega arith))
    ]

-- the sums that are kept stand for all
pub dense_kept : (sums : List ℤ) → length sums ≡ SITES → dense_sums (nonzero_sums sums) ≡ sums
dense_kept sums wide =
    sym (by_site_from (λ s. sum_found s (nonzero_sums sums)) sums (pos 0) wide (λ s below. sym (found_kept 0 s s sums (omega arith))))

listed_of : (whole : ℕ) (vector : List ℕ) (count : ℕ) (items : List (ℕ × ℤ)) (b0 b1 b2 : List ℕ) → byte_in whole 0 (SITES + 1) b0 ≡ Ok (count, b1) → many_at (later_sum_at whole vector) count [] b1 ≡ Ok (items, b2) → some_sums_at whole vector b0 ≡ Ok (dense_sums items, b2)
unfolding listed_sums_at
listed_of whole vector count items b0 b1 b2 first many = rw (first, many) refl

some_sums_again : (whole : ℕ) (vector : List ℕ) (sums : List ℤ) (rest : List ℕ) → IsCounters vector → length sums ≡ SITES → AreWithinFrom vector 0 sums → some_sums_at whole vector (listed_sums (nonzero_sums sums) ++ rest) ≡ Ok (sums, rest)
unfolding listed_sums
some_sums_again whole vector sums rest counters wide within =
    let items = nonzero_sums sums in
    let few = listed_length 0 sums in
    let bytes = flat_map sum_bytes items ++ rest in
    let again = listed_again whole vector 0 [] sums counters (omega arith) (omega arith) within in
    listed_of whole vector (length items) items (length items ∷ bytes) bytes rest (byte_in_again whole 0 (SITES + 1) (length items) bytes (omega arith) (omega arith)) (many_again (later_sum_at whole vector) sum_bytes [] items rest again)
    ∙ ap (λ xs. Ok (xs, rest)) (dense_kept sums wide)

-- ---- a sum for each of the first sites

each_again : (vector : List ℕ) (before sums : List ℤ) → IsCounters vector → AreWithinFrom vector (length before) sums → AreAgain (next_sum_at vector) (signed w128) before sums
each_again vector before [] counters within = tt
each_again vector before (x ∷ sums) counters within =
    let size = length_push before x in (
      λ rest. sum_again vector (length before) x rest counters (within_first vector (length before) x sums within),
      each_again vector (before ++ x ∷ []) sums counters (subst (λ n. AreWithinFrom vector n sums) (sym size) (within_rest vector (length before) x sums within)),
    )

all_of : (vector : List ℕ) (items : List ℤ) (b0 b1 : List ℕ) → many_at (next_sum_at vector) DENSE_SITES [] b0 ≡ Ok (items, b1) → all_sums_at vector b0 ≡ Ok (by_site (λ s. slice_index_or items s (pos 0)), b1)
unfolding each_sum_at
all_of vector items b0 b1 many = rw many refl

zero_of : (x : ℤ) → IsWithin 0 x → x ≡ pos 0
zero_of x within = omega (arith, ints, within.0, within.1)

-- the sums of the first sites are all of them, where the vector knows nothing of later sites
first_all : (vector : List ℕ) (sums : List ℤ) → IsDense vector → length sums ≡ SITES → AreWithinFrom vector 0 sums → by_site (λ s. slice_index_or (take DENSE_SITES sums) s (pos 0)) ≡ sums
first_all vector sums few wide within =
    let eight = dense_sites_is in
    let sites = sites_is in
    let size : length (take DENSE_SITES sums) ≡ DENSE_SITES = length-take-le DENSE_SITES sums (omega arith) in
    sym (by_site_from (λ s. slice_index_or (take DENSE_SITES sums) s (pos 0)) sums (pos 0) wide (λ s below. elim (cases_lt s DENSE_SITES) [
      | inl first ↦ sym (get_or-take DENSE_SITES sums s (pos 0) first)
      | inr past ↦
          let place : 0 + s ≡ s = omega arith in
          let none : MOST * slice_index vector (0 + s) ≡ 0 = ap (λ n. MOST * n) (ap (slice_index vector) place ∙ few s past) in
          zero_of (get_or sums s (pos 0)) (subst (λ n. IsWithin n (get_or sums s (pos 0))) none (within s (omega arith)))
          ∙ sym (get_or_past (take DENSE_SITES sums) s (pos 0) (omega arith))
    ]))

within_take : (vector : List ℕ) (n : ℕ) (sums : List ℤ) → AreWithinFrom vector 0 sums → AreWithinFrom vector 0 (take n sums)
within_take vector n sums within i below =
    let size = length-take n sums in
    subst (IsWithin (MOST * slice_index vector (0 + i))) (sym (get_or-take n sums i (pos 0) (omega arith))) (within i (omega arith))

all_sums_again : (vector : List ℕ) (sums : List ℤ) (rest : List ℕ) → IsCounters vector → IsDense vector → length sums ≡ SITES → AreWithinFrom vector 0 sums → all_sums_at vector (each_sum sums ++ rest) ≡ Ok (sums, rest)
unfolding each_sum
all_sums_again vector sums rest counters few wide within =
    let eight = dense_sites_is in
    let sites = sites_is in
    let items = take DENSE_SITES sums in
    let size : length items ≡ DENSE_SITES = length-take-le DENSE_SITES sums (omega arith) in
    let again = each_again vector [] items counters (within_take vector DENSE_SITES sums within) in
    let many = ap (λ n. many_at (next_sum_at vector) n [] (flat_map (signed w128) items ++ rest)) (sym size) ∙ many_again (next_sum_at vector) (signed w128) [] items rest again in
    all_of vector items (flat_map (signed w128) items ++ rest) rest many ∙ ap (λ xs. Ok (xs, rest)) (first_all vector sums few wide within)

sums_within : (v : Version) (whole : ℕ) (vector : List ℕ) (sums : List ℤ) (rest : List ℕ) → HasVector v vector → IsCounters vector → length sums ≡ SITES → AreWithinFrom vector 0 sums → sums_at v whole vector (sums_bytes v sums ++ rest) ≡ Ok (sums, rest)
sums_within One whole vector sums rest has counters wide within = all_sums_again vector sums rest counters has wide within
sums_within Two whole vector sums rest has counters wide within = some_sums_again whole vector sums rest counters wide within
sums_within Three whole vector sums rest has counters wide within = some_sums_again whole vector sums rest counters wide within

-- the sums of an addition
pub sums_again : (v : Version) (whole : ℕ) (vector : List ℕ) (sums : List ℤ) (rest : List ℕ) → HasVector v vector → IsCounters vector → length sums ≡ SITES → ((t : ℕ) → t < SITES → IsWithin (MOST * slice_index vector t) (slice_index_or sums t (pos 0))) → sums_at v whole vector (sums_bytes v sums ++ rest) ≡ Ok (sums, rest)
sums_again v whole vector sums rest has counters wide bounded =
    sums_within v whole vector sums rest has counters wide
    (λ i below. let place : i ≡ 0 + i = omega arith in subst (λ p. IsWithin (MOST * slice_index vector p) (get_or sums i (pos 0))) place (bounded i (omega arith)))

-- Parts that were written are read again, whatever follows them.

use Rattle.std.proofs.Common.{ap, arith, eq-eqb, false, inl, inr, length, List, None, Ok, Option, refl, Some, sym, true, ℕ, ℤ, ◌*◌, ◌+◌, ◌++◌, ◌<◌, ◌^◌, ◌==◌, ◌≤◌, ◌∷◌, ◌≡◌, ◌≢◌}
use Rattle.std.proofs.lemmas.Bool.{cases_Bool}
use Rattle.std.proofs.lemmas.Bool.Decides.{Decides-int_eq, nat_tests}
use Rattle.std.proofs.lemmas.Int.{ints}
use Rattle.std.specs.Int.{to_be_bytes, w64, w128}
use Rattle.std.specs.Ordering.{int_eq}
use Rattle.std.specs.Prelude.{FitsSigned, nat_le, nat_lt, negsuc, pos, slice_index, unsigned_abs}
use Rattle.zq_dots.proofs.Counters.{last_is}
use Rattle.zq_fields.proofs.Again.{u64_read}
use Rattle.zq_fields.proofs.Halves.{i128_read}
use Rattle.zq_fields.specs.Fields.{number_field, signed, signed_field, text}
use Rattle.zq_merge.specs.Fields.{placed_member_at, rule_at, site_sum_at, vector_at}
use Rattle.zq_merge.specs.Reading.{counter_at, is_after, of_part, rising_text_at, site_at, sum_in}
use Rattle.zq_merge.specs.Spelling.{rule_bytes, sum_bytes, vector_bytes}
use Rattle.zq_merge.specs.Version.{HasRule, HasVector}
use Rattle.zq_merge.specs.declared.version.Version.{Version}
use Rattle.zq_merge.specs.declared.version.Version.TheVariants.{One, Three, Two}
use Rattle.zq_model.specs.Heaps.{heap_of}
use Rattle.zq_model.specs.Operation.{IsWithin, LONGEST, MOST}
use Rattle.zq_model.specs.Rule.{Rule}
use Rattle.zq_model.specs.Sets.{IsCounters, LAST, SITES}
use Rattle.zq_fields.proofs.PartsAgain.{byte_in_again, rule_read, text_read}
use Rattle.zq_fields.proofs.Counters.{dense_again, limits}
use Rattle.zq_fields.proofs.Entries.{sparse_again}
use Rattle.zq_fields.specs.Reading.{text_at}
use Rattle.zq_fields.specs.declared.heap_no.HeapNo.{HeapNo}

pub site_again : (whole past low s : ℕ) (rest : List ℕ) → low ≤ s → s < past → site_at whole past low (s ∷ rest) ≡ Ok (s, rest)
unfolding site_at
site_again whole past low s rest from below =
    let test : nat_lt s low ≡ false = grind (arith, nat_tests) in
    rw (byte_in_again whole 0 past s rest (omega arith) below, test) refl

counter_of : (last n : ℕ) (bytes rest : List ℕ) → number_field w64 bytes ≡ Some (n, rest) → 1 ≤ n → n ≤ last → counter_at last bytes ≡ Ok (n, rest)
unfolding counter_at
counter_of last n bytes rest e some within =
    let least : nat_le 1 n ≡ true = grind (arith, nat_tests) in
    let most : nat_le n last ≡ true = grind (arith, nat_tests) in
    rw (e, least, most) refl

pub counter_again : (last n : ℕ) (rest : List ℕ) → 1 ≤ n → n ≤ last → last ≤ LAST → counter_at last (to_be_bytes w64 n ++ rest) ≡ Ok (n, rest)
counter_again last n rest some within few =
    let is = last_is in
    counter_of last n (to_be_bytes w64 n ++ rest) rest (u64_read n rest (omega arith)) some within

sum_of : (most : ℕ) (z : ℤ) (bytes rest : List ℕ) → signed_field w128 bytes ≡ Some (z, rest) → unsigned_abs z ≤ most → sum_in most bytes ≡ Ok (z, rest)
unfolding sum_in
sum_of most z bytes rest e within =
    let test : nat_le (unsigned_abs z) most ≡ true = grind (arith, nat_tests) in rw (e, test) refl

abs_within : (most : ℕ) (z : ℤ) → IsWithin most z → unsigned_abs z ≤ most
abs_within most (pos n) within = let high = within.1 in omega (arith, ints)
abs_within most (negsuc n) within = let low = within.0 in omega (arith, ints)

fits_within : (most : ℕ) (z : ℤ) → most < 2 ^ 127 → IsWithin most z → FitsSigned w128 z
fits_within most (pos n) few within = let small = abs_within most (pos n) within in record { sfits = omega arith }
fits_within most (negsuc n) few within = let small = abs_within most (negsuc n) within in record { sfits = omega arith }

-- the amounts of sums fit sixteen bytes
most_fits : (vector : List ℕ) (s : ℕ) → IsCounters vector → MOST * slice_index vector s < 2 ^ 127
most_fits vector s counters = let bound = counters.bounded s in let is = last_is in omega arith

pub sum_again : (vector : List ℕ) (s : ℕ) (z : ℤ) (rest : List ℕ) → IsCounters vector → IsWithin (MOST * slice_index vector s) z → sum_in (MOST * slice_index vector s) (signed w128 z ++ rest) ≡ Ok (z, rest)
sum_again vector s z rest counters within =
    let most = MOST * slice_index vector s in
    sum_of most z (signed w128 z ++ rest) rest (i128_read z rest (fits_within most z (most_fits vector s counters) within)) (abs_within most z within)

site_sum_of : (whole : ℕ) (vector : List ℕ) (low s : ℕ) (z : ℤ) (b0 b1 b2 : List ℕ) → site_at whole SITES low b0 ≡ Ok (s, b1) → sum_in (MOST * slice_index vector s) b1 ≡ Ok (z, b2) → int_eq z (pos 0) ≡ false → site_sum_at whole vector low b0 ≡ Ok ((s, z), b2)
unfolding site_sum_at
site_sum_of whole vector low s z b0 b1 b2 site sum some = rw (site, sum, some) refl

pub site_sum_again : (whole : ℕ) (vector : List ℕ) (low s : ℕ) (z : ℤ) (rest : List ℕ) → IsCounters vector → low ≤ s → s < SITES → z ≢ pos 0 → IsWithin (MOST * slice_index vector s) z → site_sum_at whole vector low (sum_bytes (s, z) ++ rest) ≡ Ok ((s, z), rest)
site_sum_again whole vector low s z rest counters from below some within =
    let test : int_eq z (pos 0) ≡ false = elim (cases_Bool (int_eq z (pos 0))) [
      | inl equal ↦ absurd (some ((Decides-int_eq z (pos 0)).0 equal))
      | inr other ↦ other
    ] in
    site_sum_of whole vector low s z (s ∷ (signed w128 z ++ rest)) (signed w128 z ++ rest) rest (site_again whole SITES low s (signed w128 z ++ rest) from below) (sum_again vector s z rest counters within) test

text_above_of : (before : Option (List ℕ)) (x b0 b1 : List ℕ) → text_at b0 ≡ Ok (x, b1) → is_after before x ≡ true → rising_text_at before b0 ≡ Ok (x, b1)
unfolding rising_text_at
text_above_of before x b0 b1 e after = rw (e, after) refl

pub text_above_again : (before : Option (List ℕ)) (x rest : List ℕ) → length x ≤ LONGEST → is_after before x ≡ true → rising_text_at before (text x ++ rest) ≡ Ok (x, rest)
text_above_again before x rest short after = text_above_of before x (text x ++ rest) rest (text_read x rest short) after

placed_of : (heap : HeapNo) (key : List ℕ) (before : Option (List ℕ)) (x b0 b1 : List ℕ) → rising_text_at before b0 ≡ Ok (x, b1) → heap_of key x heap.heaps ≡ heap.heap → placed_member_at heap key before b0 ≡ Ok (x, b1)
unfolding placed_member_at
placed_of heap key before x b0 b1 e here =
    let test : (heap_of key x heap.heaps == heap.heap) ≡ true = eq-eqb _ _ here in rw (e, test) refl

pub placed_again : (heap : HeapNo) (key : List ℕ) (before : Option (List ℕ)) (x rest : List ℕ) → length x ≤ LONGEST → is_after before x ≡ true → heap_of key x heap.heaps ≡ heap.heap → placed_member_at heap key before (text x ++ rest) ≡ Ok (x, rest)
placed_again heap key before x rest short after here = placed_of heap key before x (text x ++ rest) rest (text_above_again before x rest short after) here

pub rule_again : (v : Version) (whole : ℕ) (rule : Rule) (rest : List ℕ) → HasRule v rule → rule_at v whole (rule_bytes v rule ++ rest) ≡ Ok (rule, rest)
rule_again One whole rule rest is = ap (λ r. Ok (r, rest)) (sym is)
rule_again Two whole rule rest is = ap (λ r. Ok (r, rest)) (sym is)
rule_again Three whole rule rest is = ap of_part (rule_read whole rule rest)

pub vector_again : (v : Version) (whole : ℕ) (vector rest : List ℕ) → HasVector v vector → IsCounters vector → vector_at v whole (vector_bytes v vector ++ rest) ≡ Ok (vector, rest)
vector_again One whole vector rest few counters = ap of_part (dense_again whole None vector rest counters few (limits vector counters))
vector_again Two whole vector rest few counters = ap of_part (sparse_again whole None vector rest counters (limits vector counters))
vector_again Three whole vector rest few counters = ap of_part (sparse_again whole None vector rest counters (limits vector counters))

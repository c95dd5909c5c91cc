-- Parts that were written are read again, whatever follows them.

use Rattle.std.proofs.Common.{arith, false, length, List, Ok, refl, Some, true, ℕ, ◌++◌, ◌<◌, ◌^◌, ◌∷◌, ◌≡◌, ◌≤◌}
use Rattle.std.proofs.lemmas.Bool.Decides.{nat_tests}
use Rattle.std.proofs.lemmas.Int.{ints}
use Rattle.std.specs.Int.{to_be_bytes, w32, w64}
use Rattle.std.specs.Prelude.{FitsSigned, nat_le, nat_lt, negsuc, pos, unsigned_abs, ℤ}
use Rattle.zq_dots.specs.Placed.{LONGEST}
use Rattle.zq_fields.proofs.Again.{bytes_read, i64_read, u32_read, u64_read}
use Rattle.zq_fields.specs.Fields.{bytes_field, number_field, signed, signed_field, text}
use Rattle.zq_model.specs.Operation.{IsWithin, MOST}
use Rattle.zq_model.specs.Rule.{Greatest, Least, Rule}
use Rattle.zq_model.specs.Sets.{IsHeaps}
use Rattle.zq_fields.specs.Reading.{byte_in, heap_at, number_in, rule_at, rule_of_byte, score_at, text_at}
use Rattle.zq_fields.specs.Spelling.{rule_byte}
use Rattle.zq_fields.specs.declared.heap_no.HeapNo.{HeapNo}

pub byte_in_again : (whole low past b : ℕ) (rest : List ℕ) → low ≤ b → b < past → byte_in whole low past (b ∷ rest) ≡ Ok (b, rest)
unfolding byte_in
byte_in_again whole low past b rest from below = grind (arith, nat_tests)

number_of : (whole low last n : ℕ) (bytes rest : List ℕ) → number_field w64 bytes ≡ Some (n, rest) → low ≤ n → n ≤ last → number_in whole low last bytes ≡ Ok (n, rest)
unfolding number_in
number_of whole low last n bytes rest e from within =
    let least : nat_le low n ≡ true = grind (arith, nat_tests) in
    let most : nat_le n last ≡ true = grind (arith, nat_tests) in
    rw (e, least, most) refl

pub number_in_again : (whole low last n : ℕ) (rest : List ℕ) → low ≤ n → n ≤ last → last < 2 ^ 64 → number_in whole low last (to_be_bytes w64 n ++ rest) ≡ Ok (n, rest)
number_in_again whole low last n rest from within fits =
    number_of whole low last n (to_be_bytes w64 n ++ rest) rest (u64_read n rest (omega arith)) from within

pub heap_read : (whole : ℕ) (h : HeapNo) (rest : List ℕ) → IsHeaps h.heaps → h.heap < h.heaps → heap_at whole (h.heaps ∷ h.heap ∷ rest) ≡ Ok (h, rest)
unfolding heap_at
heap_read whole h rest heaps below =
    rw (byte_in_again whole 1 17 h.heaps (h.heap ∷ rest) heaps.0 (let few = heaps.1 in omega arith), byte_in_again whole 0 h.heaps h.heap rest (omega arith) below) refl

rule_from : (whole b : ℕ) (rule : Rule) (b0 b1 : List ℕ) → byte_in whole 0 2 b0 ≡ Ok (b, b1) → rule_of_byte b ≡ rule → rule_at whole b0 ≡ Ok (rule, b1)
unfolding rule_at
rule_from whole b rule b0 b1 e is = rw (e, is) refl

pub rule_read : (whole : ℕ) (rule : Rule) (rest : List ℕ) → rule_at whole (rule_byte rule ∷ rest) ≡ Ok (rule, rest)
rule_read whole Greatest rest = rule_from whole 0 Greatest (0 ∷ rest) rest (byte_in_again whole 0 2 0 rest (omega arith) (omega arith)) refl
rule_read whole Least rest = rule_from whole 1 Least (1 ∷ rest) rest (byte_in_again whole 0 2 1 rest (omega arith) (omega arith)) refl

abs_within : (z : ℤ) → IsWithin MOST z → unsigned_abs z ≤ MOST
abs_within (pos n) within = let high = within.1 in omega (arith, ints)
abs_within (negsuc n) within = let low = within.0 in omega (arith, ints)

fits_within : (z : ℤ) → IsWithin MOST z → FitsSigned w64 z
fits_within (pos n) within = let small = abs_within (pos n) within in record { sfits = omega arith }
fits_within (negsuc n) within = let small = abs_within (negsuc n) within in record { sfits = omega arith }

score_of : (z : ℤ) (bytes rest : List ℕ) → signed_field w64 bytes ≡ Some (z, rest) → unsigned_abs z ≤ MOST → score_at bytes ≡ Ok (z, rest)
unfolding score_at
score_of z bytes rest e within =
    let test : nat_le (unsigned_abs z) MOST ≡ true = grind (arith, nat_tests) in rw (e, test) refl

pub score_read : (z : ℤ) (rest : List ℕ) → IsWithin MOST z → score_at (signed w64 z ++ rest) ≡ Ok (z, rest)
score_read z rest within = score_of z (signed w64 z ++ rest) rest (i64_read z rest (fits_within z within)) (abs_within z within)

text_of : (n : ℕ) (b0 b1 x b2 : List ℕ) → number_field w32 b0 ≡ Some (n, b1) → n ≤ LONGEST → bytes_field n b1 ≡ Some (x, b2) → text_at b0 ≡ Ok (x, b2)
unfolding text_at
text_of n b0 b1 x b2 count short bytes =
    let test : nat_lt LONGEST n ≡ false = grind (arith, nat_tests) in rw (count, test, bytes) refl

pub text_read : (x rest : List ℕ) → length x ≤ LONGEST → text_at (text x ++ rest) ≡ Ok (x, rest)
text_read x rest short =
    text_of (length x) (text x ++ rest) (x ++ rest) x rest (u32_read (length x) (x ++ rest) (omega arith)) short (bytes_read (length x) x rest refl)

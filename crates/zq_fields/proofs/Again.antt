-- What is written is read again, whatever follows it.

use Rattle.std.proofs.Common.{arith, false, length, List, Some, ℕ, ◌++◌, ◌<◌, ◌^◌, ◌≡◌, refl}
use Rattle.std.proofs.lemmas.Bool.Decides.{nat_tests}
use Rattle.std.proofs.lemmas.Int.{to_z-of_z}
use Rattle.std.proofs.lemmas.List.{drop_at, length-append, take_at}
use Rattle.std.proofs.lemmas.Nat.{from_be_bytes-to_be_bytes_4, from_be_bytes-to_be_bytes_8}
use Rattle.std.specs.Int.{Width, byte_len, cast_signed, cast_unsigned, from_be_bytes, to_be_bytes, w32, w64}
use Rattle.std.specs.Prelude.{FitsSigned, nat_lt, negsuc, pos, ℤ}
use Rattle.zq_fields.specs.Fields.{bytes_field, number_field, signed, signed_field}

-- a text that is long enough is not short
long : (n : ℕ) (x rest : List ℕ) → length x ≡ n → nat_lt (length (x ++ rest)) n ≡ false
long n x rest is = rw (length-append x rest) (grind (arith, nat_tests))

pub bytes_read : (n : ℕ) (x rest : List ℕ) → length x ≡ n → bytes_field n (x ++ rest) ≡ Some (x, rest)
bytes_read n x rest is = rw (long n x rest is, take_at x rest n is, drop_at x rest n is) refl

-- these bytes of a number are read as the number
number_read : (w : Width) (n : ℕ) (x rest : List ℕ) → length x ≡ byte_len w → from_be_bytes w x ≡ n → number_field w (x ++ rest) ≡ Some (n, rest)
number_read w n x rest size is =
    rw (long (byte_len w) x rest size, take_at x rest (byte_len w) size, drop_at x rest (byte_len w) size, is) refl

pub u32_read : (n : ℕ) (rest : List ℕ) → n < 2 ^ 32 → number_field w32 (to_be_bytes w32 n ++ rest) ≡ Some (n, rest)
u32_read n rest fits = number_read w32 n (to_be_bytes w32 n) rest refl (from_be_bytes-to_be_bytes_4 n fits)

pub u64_read : (n : ℕ) (rest : List ℕ) → n < 2 ^ 64 → number_field w64 (to_be_bytes w64 n ++ rest) ≡ Some (n, rest)
u64_read n rest fits = number_read w64 n (to_be_bytes w64 n) rest refl (from_be_bytes-to_be_bytes_8 n fits)

pub signed_read : (w : Width) (z : ℤ) (x rest : List ℕ) → length x ≡ byte_len w → from_be_bytes w x ≡ cast_unsigned w z → cast_signed w (cast_unsigned w z) ≡ z → signed_field w (x ++ rest) ≡ Some (z, rest)
signed_read w z x rest size is back =
    rw (long (byte_len w) x rest size, take_at x rest (byte_len w) size, drop_at x rest (byte_len w) size, is, back) refl

-- the bits of a number in two's complement
bits_fit : (z : ℤ) → FitsSigned w64 z → cast_unsigned w64 z < 2 ^ 64
bits_fit (pos n) fits = let small = fits.sfits in omega arith
bits_fit (negsuc n) fits = omega arith

pub i64_read : (z : ℤ) (rest : List ℕ) → FitsSigned w64 z → signed_field w64 (signed w64 z ++ rest) ≡ Some (z, rest)
i64_read z rest fits =
    signed_read w64 z (signed w64 z) rest refl (from_be_bytes-to_be_bytes_8 (cast_unsigned w64 z) (bits_fit z fits)) (to_z-of_z w64 z fits)

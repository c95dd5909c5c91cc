-- Bits that differ, gathered.

use Rattle.std.proofs.Common.{arith, ℕ, ◌≡◌, bit_or}
use Rattle.std.proofs.lemmas.Nat.{and_le_l, and_le_r, le_or_l, le_or_r}
use Rattle.std.specs.Int.Bits.{bit_xor, xor_add_and, xor_self}

-- two numbers that differ in no bit are equal
pub equal_since : (a b : ℕ) → bit_xor a b ≡ 0 → a ≡ b
equal_since a b none = omega (arith, xor_add_and a b, and_le_l a b, and_le_r a b)

-- no bit differed before, and none differs here
pub none_since : (differing a b : ℕ) → bit_or differing (bit_xor a b) ≡ 0 → (differing ≡ 0) × (a ≡ b)
none_since differing a b none =
    (omega (arith, le_or_l differing (bit_xor a b)), equal_since a b (omega (arith, le_or_r differing (bit_xor a b))))

pub none_from : (differing a b : ℕ) → differing ≡ 0 → a ≡ b → bit_or differing (bit_xor a b) ≡ 0
none_from differing a b none same = rw (none, same) (xor_self b)

-- What stands between the quotes of a value.

use Rattle.std.proofs.Common.{Bool, List, [], arith, false, refl, true, ℕ, ◌%◌, ◌++◌, ◌/◌, ◌<◌, ◌==◌, ◌≡◌, ◌∷◌}
use Rattle.std.specs.Prelude.{flat_map, if◌then◌else◌}
use Rattle.zq_log.specs.Pairs.{EndsAtItsQuote, digit, escaped, is_control, is_inside, is_mark}

-- a byte that is no quote, no backslash and no control byte stands there
one : (byte : ℕ) (rest : List ℕ) → is_control byte ≡ false → (byte == 34) ≡ false → (byte == 92) ≡ false → is_inside false rest ≡ true → is_inside false (byte ∷ rest) ≡ true
one byte rest control quote slash inside = grind (arith, control, quote, slash, inside)

-- so does a digit
one_digit : (number : ℕ) (rest : List ℕ) → number < 16 → is_inside false rest ≡ true → is_inside false (digit number ∷ rest) ≡ true
one_digit number rest small inside = grind (arith, small, inside)

-- a control byte is below 128
below : (byte : ℕ) → is_control byte ≡ true → byte < 128
below byte control = grind (arith, control)

-- and so do the bytes of one that is escaped, which is a control byte, a mark or neither
chosen : (c m : Bool) (byte : ℕ) (rest : List ℕ) → is_control byte ≡ c → is_mark byte ≡ m → is_inside false rest ≡ true → is_inside false ((if c then 92 ∷ 117 ∷ 48 ∷ 48 ∷ digit (byte / 16) ∷ digit (byte % 16) ∷ [] else if m then 92 ∷ byte ∷ [] else byte ∷ []) ++ rest) ≡ true
chosen true m byte rest control mark inside =
    let small = below byte control in
    one_digit (byte / 16) (digit (byte % 16) ∷ rest) (omega (arith, small)) (one_digit (byte % 16) rest (omega arith) inside)
chosen false true byte rest control mark inside = grind (arith, control, inside)
chosen false false byte rest control mark inside =
    one byte rest control (grind (arith, mark)) (grind (arith, mark)) inside

each : (byte : ℕ) (rest : List ℕ) → is_inside false rest ≡ true → is_inside false (escaped byte ++ rest) ≡ true
each byte rest inside = chosen (is_control byte) (is_mark byte) byte rest refl refl inside

pub ends_at_its_quote : EndsAtItsQuote
ends_at_its_quote [] = refl
ends_at_its_quote (byte ∷ bytes) = each byte (flat_map escaped bytes) (ends_at_its_quote bytes)

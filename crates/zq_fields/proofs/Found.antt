-- The bytes at the front are those of the number that they write.

use Rattle.std.proofs.Common.{arith, drop, get_or, inl, inr, length, List, sym, take, ℕ, ◌++◌, ◌+◌, ◌<◌, ◌≡◌, Fits, w8}
use Rattle.std.proofs.lemmas.Bool.{cases_lt}
use Rattle.std.proofs.lemmas.List.{get_or-take, get_or_past, length-take, length-take-le, take-append-drop}
use Rattle.std.proofs.lemmas.Nat.{be_bytes_4, be_bytes_8}
use Rattle.std.specs.Int.{from_be_bytes, to_be_bytes, w32, w64}

-- each is a byte
abbrev pub AreBytes : List ℕ → Type 0
AreBytes bytes = (i : ℕ) → Fits w8 (get_or bytes i 0)

pub front_bytes : (k : ℕ) (bytes : List ℕ) → AreBytes bytes → (i : ℕ) → get_or (take k bytes) i 0 < 256
front_bytes k bytes small i = elim (cases_lt i k) [
  | inl below ↦ rw (get_or-take k bytes i 0 below) (small i).fits
  | inr past ↦ rw (get_or_past (take k bytes) i 0 (omega (arith, length-take k bytes))) (omega arith)
]

-- the first k bytes, seen as front, and the rest
pub record IsFront (k : ℕ) (bytes front rest : List ℕ) : Type 0 where
  pub front_is : front ≡ take k bytes
  pub rest_is : rest ≡ drop k bytes
  pub long : length rest + k ≡ length bytes

-- where the first k bytes are those that a number writes, the number's bytes and the rest make the whole
pub whole : (k : ℕ) (bytes front rest written : List ℕ) → IsFront k bytes front rest → written ≡ take k bytes → bytes ≡ written ++ rest
whole k bytes front rest written f is = rw (is, f.rest_is) (sym (take-append-drop k bytes))

pub found_4 : (bytes front rest : List ℕ) (n : ℕ) → AreBytes bytes → IsFront 4 bytes front rest → n ≡ from_be_bytes w32 front → bytes ≡ to_be_bytes w32 n ++ rest
found_4 bytes front rest n small f is =
    let long = f.long in
    whole 4 bytes front rest (to_be_bytes w32 n) f (be_bytes_4 (take 4 bytes) n (length-take-le 4 bytes (omega arith)) (front_bytes 4 bytes small) (rw (← f.front_is) is))

pub found_8 : (bytes front rest : List ℕ) (n : ℕ) → AreBytes bytes → IsFront 8 bytes front rest → n ≡ from_be_bytes w64 front → bytes ≡ to_be_bytes w64 n ++ rest
found_8 bytes front rest n small f is =
    let long = f.long in
    whole 8 bytes front rest (to_be_bytes w64 n) f (be_bytes_8 (take 8 bytes) n (length-take-le 8 bytes (omega arith)) (front_bytes 8 bytes small) (rw (← f.front_is) is))

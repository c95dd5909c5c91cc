-- The fields that frames are made of. Reading takes a field from the front of the bytes. It gives
-- the value and the bytes after it, or None where bytes of the field are missing.

use Rattle.std.specs.Int.{Width, byte_len, cast_signed, cast_unsigned, from_be_bytes, to_be_bytes, w32}
use Rattle.std.specs.Prelude.{List, None, Option, Some, [], drop, if◌then◌else◌, length, nat_lt, take, ℕ, ℤ, ◌++◌, ◌∷◌, ◌≡◌}

abbrev pub byte_field : List ℕ → Option (ℕ × List ℕ)
byte_field [] = None
byte_field (b ∷ rest) = Some (b, rest)

-- this many bytes
abbrev pub bytes_field : ℕ → List ℕ → Option (List ℕ × List ℕ)
bytes_field n bytes = if nat_lt (length bytes) n then None else Some (take n bytes, drop n bytes)

-- a number, its highest byte first
abbrev pub number_field : Width → List ℕ → Option (ℕ × List ℕ)
number_field w bytes =
    if nat_lt (length bytes) (byte_len w) then None else Some
    (from_be_bytes w (take (byte_len w) bytes), drop (byte_len w) bytes)

-- a number in two's complement, its highest byte first
abbrev pub signed_field : Width → List ℕ → Option (ℤ × List ℕ)
signed_field w bytes =
    if nat_lt (length bytes) (byte_len w) then None else Some
    (cast_signed w (from_be_bytes w (take (byte_len w) bytes)), drop (byte_len w) bytes)

-- the bytes of a number in two's complement
abbrev pub signed : Width → ℤ → List ℕ
signed w z = to_be_bytes w (cast_unsigned w z)

-- four bytes of length, and that many bytes
abbrev pub text : List ℕ → List ℕ
text bytes = to_be_bytes w32 (length bytes) ++ bytes

-- The code's answer, seen through view, is the answer of the definition.
abbrev pub Gives : {X Y : Type 0} → (X → Y) → Option X → Option Y → Type 0
Gives view (Some x) read = read ≡ Some (view x)
Gives view None read = read ≡ None

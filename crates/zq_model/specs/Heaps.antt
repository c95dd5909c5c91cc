-- Where a member of a key lies: 64-bit FNV-1a, modulo the number of heaps.

use Rattle.std.specs.Int.{bytes_high_first}
use Rattle.std.specs.Prelude.{List, bit_xor, fold, length, ℕ, ◌%◌, ◌*◌, ◌++◌, ◌^◌}

-- a byte goes into the hash by exclusive or, which is then multiplied
abbrev pub fnv1a64_step : ℕ → ℕ → ℕ
fnv1a64_step hash byte = (bit_xor hash byte * 1099511628211) % 2 ^ 64

unfoldable pub fnv1a64 : List ℕ → ℕ
fnv1a64 bytes = fold fnv1a64_step 14695981039346656037 bytes

-- the key's length in four bytes, the highest first, then the key, then the member
abbrev pub placing_bytes : List ℕ → List ℕ → List ℕ
placing_bytes key member = bytes_high_first 4 (length key) ++ (key ++ member)

-- the heap of a member, of this number of heaps
unfoldable pub heap_of : List ℕ → List ℕ → ℕ → ℕ
heap_of key member heaps = fnv1a64 (placing_bytes key member) % heaps

-- Operations that were taken from the front of the bytes.

use Rattle.std.specs.Prelude.{All, List, flat_map, map, ℕ, ◌++◌, ◌≡◌}
use Rattle.zq_dots.specs.Placed.{Placed}
use Rattle.zq_links.specs.Spelling.{HasOp, SpelledOp, op_bytes, op_of, ops_bytes}

-- a spelling of the operation was taken
abbrev pub IsOpSpelled : Placed → List ℕ → List ℕ → Type 0
IsOpSpelled op bytes rest = (o : SpelledOp) × HasOp o × (op_of o ≡ op)
    × (bytes ≡ op_bytes o ++ rest)

-- spellings of the operations were taken, one after the other
abbrev pub AreEachSpelled : List Placed → List ℕ → List ℕ → Type 0
AreEachSpelled ops bytes rest = (os : List SpelledOp) × All HasOp os × (map op_of os ≡ ops)
    × (bytes ≡ flat_map op_bytes os ++ rest)

-- their number, and spellings of them
abbrev pub AreSpelled : List Placed → List ℕ → List ℕ → Type 0
AreSpelled ops bytes rest = (os : List SpelledOp) × All HasOp os × (map op_of os ≡ ops)
    × (bytes ≡ ops_bytes os ++ rest)

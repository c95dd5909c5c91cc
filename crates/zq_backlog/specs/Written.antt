-- Operations as a log keeps them: written, each once.

use Rattle.std.specs.Prelude.{Err, List, Ok, Result, [], length, sum_by, ℕ, ◌+◌}
use Rattle.zq_delta.specs.Reading.{found_at}
use Rattle.zq_delta.specs.Spelling.{op_spelling}
use Rattle.zq_delta.specs.declared.fault.OpFault.{OpFault}
use Rattle.zq_delta.specs.declared.version.Version.TheVariants.{Two}
use Rattle.zq_dots.specs.Placed.{Placed}
use Rattle.zq_dots.specs.declared.dot.Dot.{Dot}
use Rattle.zq_model.specs.Operation.{Drop}

-- the bytes of an operation, in the newest version
unfoldable pub spelling : Placed → List ℕ
spelling o = op_spelling Two o

-- what stands where no operation is written
abbrev pub nothing : Placed
nothing = record {
  heaps = 0;
  operation = record { heap = 0; site = 0; n = 0; seen = []; key = []; member = []; act = Drop };
}

abbrev pub found_or_nothing : Result (Placed × ℕ) OpFault → Placed
found_or_nothing (Ok found) = found.0
found_or_nothing (Err fault) = nothing

-- the operation whose bytes these are
unfoldable pub read_from : List ℕ → Placed
read_from bytes = found_or_nothing (found_at bytes)

-- its site and its counter
abbrev pub dot_of : Placed → Dot
dot_of o = record { site = o.operation.site; n = o.operation.n }

-- the bytes that a log takes for an operation beside the written ones
abbrev pub ENTRY : ℕ
ENTRY = 24

-- the bytes that a log takes for an operation
abbrev pub weight_of : Placed → ℕ
weight_of o = length (spelling o) + ENTRY

abbrev pub weights : List Placed → ℕ
weights ops = sum_by weight_of ops

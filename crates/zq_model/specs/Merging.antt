-- Queues of different members put together.

use Rattle.std.specs.BTreeSet.{insert_key}
use Rattle.std.specs.Ordering.{is_lt}
use Rattle.std.specs.Prelude.{List, None, Option, Some, [], if◌then◌else◌, ◌∷◌}
use Rattle.zq_model.specs.Meaning.{Scored, scored_cmp}
use Rattle.zq_model.specs.Moves.{Queue}

-- each pair of the first queue put into the second
abbrev pub merged : Queue → Queue → Queue
merged [] queue = queue
merged (pair ∷ pairs) queue = insert_key scored_cmp (merged pairs queue) pair

-- the first of two pairs, where there are two
abbrev pub least : Option Scored → Option Scored → Option Scored
least None q = q
least (Some p) None = Some p
least (Some p) (Some q) = if is_lt (scored_cmp p q) then Some p else Some q

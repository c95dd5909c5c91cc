-- The queue whose first pair ZPOPNEAR pops.

use Rattle.std.specs.Ordering.{is_lt}
use Rattle.std.specs.Prelude.{Bool, List, None, Option, Some, [], false, if◌then◌else◌, true, ℕ, ◌∷◌}
use Rattle.zq_model.specs.Books.{Book}
use Rattle.zq_model.specs.Meaning.{Scored, scored_cmp}
use Rattle.zq_model.specs.Rule.{Rule}
use Rattle.zq_model.specs.Lent.{queues_of}
use Rattle.zq_model.specs.Moves.{Queue}
use Rattle.zq_semantics.specs.Plan.{is_there}

-- over two of the books where one of them has a member of the key, and else over all
abbrev pub near_queue : Rule → Book → Book → List Book → List ℕ → Queue
near_queue rule low high books key =
    if is_there (queues_of rule (low ∷ high ∷ []) key) then queues_of rule
    (low ∷ high ∷ []) key else queues_of rule books key

-- the first pair is there, and less than the second, if that is there
abbrev pub is_least : Option Scored → Option Scored → Bool
is_least None q = false
is_least (Some p) None = true
is_least (Some p) (Some q) = is_lt (scored_cmp p q)

-- The members of a key in a heap.

use Rattle.std.specs.Prelude.{List, ℕ}
use Rattle.zq_model.specs.Meaning.{Scored}
use Rattle.zq_shard.specs.Shard.{queue_at}
use Rattle.zq_stage.specs.Piece.{Staged}

abbrev pub listed_in : List ℕ → Staged → List Scored
listed_in key t = queue_at t.held key

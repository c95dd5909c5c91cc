-- The fields of a stage, in the model.

use Rattle.zq_stage.specs.Piece.{Staged}
use Rattle.zq_stage.specs.declared.stage.Stage.TheInside.{Inside}

abbrev pub staged_of : Inside → Staged
staged_of t = record { held = t.shard; life = t.life; next = t.next; whole = t.whole }

-- The move of an increment.

use Rattle.std.specs.Prelude.{List, Option, ℕ, ℤ}
use Rattle.zq_commands.specs.Lending.{move_of}
use Rattle.zq_model.specs.Moves.{Move}
use Rattle.zq_semantics.specs.Plan.{raising}
use Rattle.zq_words.specs.declared.pair.Pair.{Pair}

-- it raises the pair's member, which had this score where it was there, by the pair's number
abbrev pub raising_move : List ℕ → Pair → Option ℤ → Move
raising_move key pair old = move_of key pair.member.now (raising old pair.score)

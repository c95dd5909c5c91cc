use Rattle.std.proofs.Common.{map, length}
use Rattle.zq_words.specs.Shown.{pair_shown}
use Rattle.zq_words.specs.Words.{views}
use Rattle.zq_words.proofs.PairLists.{ReadsOn}
use Rattle.zq_words.proofs.pairs.read_scored.Given as goal

abbrev pub invariant-loop-rest : goal.invariant-loop-rest
invariant-loop-rest l = ReadsOn (views l.words) (map pair_shown l.pairs.items) (views l.rest)

abbrev pub decreases-loop-rest : goal.decreases-loop-rest
decreases-loop-rest l = length l.rest

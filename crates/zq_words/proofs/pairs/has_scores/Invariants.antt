use Rattle.std.proofs.Common.{◌≡◌, length}
use Rattle.std.specs.Option.{is_some}
use Rattle.zq_words.specs.Command.{pairs_of}
use Rattle.zq_words.specs.Words.{views}
use Rattle.zq_words.proofs.pairs.has_scores.Given as goal

abbrev pub invariant-loop-rest : goal.invariant-loop-rest
invariant-loop-rest l = is_some (pairs_of (views l.words)) ≡ is_some (pairs_of (views l.rest))

abbrev pub decreases-loop-rest : goal.decreases-loop-rest
decreases-loop-rest l = length l.rest

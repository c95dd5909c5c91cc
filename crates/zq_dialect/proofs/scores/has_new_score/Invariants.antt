use Rattle.std.proofs.Common.{length, ◌≡◌}
use Rattle.zq_dialect.specs.Spelled.{has_new}
use Rattle.zq_words.specs.Words.{views}
use Rattle.zq_dialect.proofs.scores.has_new_score.Given as goal

abbrev pub invariant-loop-rest : goal.invariant-loop-rest
invariant-loop-rest l = has_new (views l.pairs) ≡ has_new (views l.rest)

abbrev pub decreases-loop-rest : goal.decreases-loop-rest
decreases-loop-rest l = length l.rest

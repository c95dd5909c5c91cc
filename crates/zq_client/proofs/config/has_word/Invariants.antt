use Rattle.std.proofs.Common.{◌≡◌, length}
use Rattle.zq_words.specs.Words.{has, views}
use Rattle.zq_client.proofs.config.has_word.Given as goal

abbrev pub invariant-loop-rest : goal.invariant-loop-rest
invariant-loop-rest l = has l.name (views l.words) ≡ has l.name (views l.rest)

abbrev pub decreases-loop-rest : goal.decreases-loop-rest
decreases-loop-rest l = length l.rest

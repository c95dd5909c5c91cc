use Rattle.std.proofs.Common.{length, ◌≡◌}
use Rattle.zq_dialect.specs.Said.{asks_again}
use Rattle.zq_words.specs.Words.{views}
use Rattle.zq_dialect.proofs.older.says_again.Given as goal

abbrev pub invariant-loop-rest : goal.invariant-loop-rest
invariant-loop-rest l = asks_again (views l.options) ≡ asks_again (views l.rest)

abbrev pub decreases-loop-rest : goal.decreases-loop-rest
decreases-loop-rest l = length l.rest

use Rattle.std.proofs.Common.{length, ◌++◌, ◌≡◌}
use Rattle.zq_dialect.specs.Spelled.{plain_pairs}
use Rattle.zq_words.specs.Words.{views}
use Rattle.zq_dialect.proofs.building.push_pairs.Given as goal

abbrev pub invariant-loop-rest : goal.invariant-loop-rest
invariant-loop-rest l =
    views l.words.items ++ plain_pairs (views l.rest) ≡ views l.fn.words.items ++ plain_pairs (views l.pairs)

abbrev pub decreases-loop-rest : goal.decreases-loop-rest
decreases-loop-rest l = length l.rest

use Rattle.std.proofs.Common.{take, ◌≡◌}
use Rattle.zq_batch.specs.Before.{last_of}
use Rattle.zq_batch.proofs.before.base_of.Given as goal

abbrev pub invariant-loop-number : goal.invariant-loop-number
invariant-loop-number l = last_of l.site l.before ≡ last_of l.site (take l.number l.before)

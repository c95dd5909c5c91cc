use Rattle.std.proofs.Common.{length, take, ◌≡◌}
use Rattle.zq_ranked.specs.Shape.{joined}
use Rattle.zq_ranked.proofs.fork.Fork.before.Given as goal

abbrev pub invariant-loop-child : goal.invariant-loop-child
invariant-loop-child l = l.count ≡ length (joined (take l.child-index l.child-items))

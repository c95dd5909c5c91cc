use Rattle.std.proofs.Common.{None, fold, take, ◌≡◌}
use Rattle.zq_follow.specs.Routes.{nearer}
use Rattle.zq_follow.proofs.relays.nearest.Given as goal

abbrev pub invariant-loop-peer : goal.invariant-loop-peer
invariant-loop-peer l = l.best ≡ fold (nearer l.site) None (take l.peer-index l.reaches)

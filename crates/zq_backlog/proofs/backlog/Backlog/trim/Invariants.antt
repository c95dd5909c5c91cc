use Rattle.std.proofs.Common.{length, ◌≡◌}
use Rattle.zq_backlog.specs.Log.{trimmed}
use Rattle.zq_backlog.proofs.backlog.Backlog.trim.Given as goal

abbrev pub invariant-loop-self : goal.invariant-loop-self
invariant-loop-self l = trimmed l.self ≡ trimmed l.initial.self

abbrev pub decreases-loop-self : goal.decreases-loop-self
decreases-loop-self l = length l.self.ops

use Rattle.std.proofs.Common.{take, ◌≡◌}
use Rattle.zq_backlog.specs.Log.{added_all}
use Rattle.zq_backlog.proofs.backlog.Backlog.add_all.Given as goal

abbrev pub invariant-loop-op : goal.invariant-loop-op
invariant-loop-op l = l.self ≡ added_all (take l.op-index l.ops) l.initial.self

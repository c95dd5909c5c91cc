use Rattle.std.proofs.Common.{take, ◌≡◌}
use Rattle.zq_replica.specs.Gathered.{AreFed}
use Rattle.zq_replica.proofs.gathering.Gathering.take_all.Given as goal

abbrev pub invariant-loop-op : goal.invariant-loop-op
invariant-loop-op l = record {
  from : l.self.from ≡ l.initial.self.from;
  fed : AreFed (take l.op-index l.ops) l.initial.self.receiving l.self.receiving;
}

use Rattle.std.proofs.Common.{◌++◌, ◌∷◌, ◌≡◌}
use Rattle.std.specs.Int.{to_be_bytes, w32}
use Rattle.std.specs.List.{flat_map}
use Rattle.zq_backlog.specs.Batch.{looked_in, picked}
use Rattle.zq_backlog.specs.Log.{raised}
use Rattle.zq_backlog.specs.Written.{spelling}
use Rattle.zq_backlog.proofs.backlog.Backlog.copy.Given as goal

abbrev pub invariant-loop-number : goal.invariant-loop-number
invariant-loop-number l = record {
  frame : l.frame.items ≡ (2 ∷ to_be_bytes w32 l.choice.count) ++ flat_map spelling (picked l.class l.sent (looked_in l.self.ops l.from l.number));
  after : l.after ≡ raised l.sent (picked l.class l.sent (looked_in l.self.ops l.from l.number));
}

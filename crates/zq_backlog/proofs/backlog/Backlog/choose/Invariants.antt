use Rattle.std.proofs.Common.{length, ℕ, ◌+◌, ◌<◌, ◌^◌, ◌≡◌, ◌≤◌}
use Rattle.std.specs.List.{flat_map}
use Rattle.zq_backlog.specs.Batch.{IsOpen, MOST_BATCH, looked_in, picked}
use Rattle.zq_backlog.specs.Log.{raised}
use Rattle.zq_backlog.specs.Written.{spelling}
use Rattle.zq_backlog.proofs.backlog.Backlog.choose.Given as goal

abbrev pub invariant-loop-number : goal.invariant-loop-number
invariant-loop-number l = record {
  looked : l.choice.looked ≡ l.number;
  count : l.choice.count ≡ length (picked l.class l.sent (looked_in l.self.ops l.from l.number));
  bytes : l.choice.bytes ≡ length (flat_map spelling (picked l.class l.sent (looked_in l.self.ops l.from l.number)));
  sent : l.choice.sent ≡ raised l.sent (picked l.class l.sent (looked_in l.self.ops l.from l.number));
  before : (j : ℕ) → j < l.number → IsOpen l.allow (picked l.class l.sent (looked_in l.self.ops l.from j));
  few : l.choice.bytes < 2 ^ 63 + MOST_BATCH;
  most : l.choice.count ≤ l.number;
}

use Rattle.std.proofs.Common.{drop, length, ◌++◌, ◌≡◌, ◌≤◌}
use Rattle.std.specs.List.{All}
use Rattle.zq_journal.specs.Records.{IsRecord, missing_of, records_over}
use Rattle.zq_journal.proofs.since.missing.Given as goal

abbrev pub invariant-loop-place : goal.invariant-loop-place
invariant-loop-place l = record {
  ops : l.ops.items ++ missing_of l.vector (records_over l.heap l.heaps l.seen (drop l.place l.tail.items))
      ≡ missing_of l.vector (records_over l.heap l.heaps l.start.seen (drop l.start.place l.tail.items));
  few : length l.ops.items ≤ l.most;
  each : All (IsRecord l.heap l.heaps) (records_over l.heap l.heaps l.seen (drop l.place l.tail.items));
}

use Rattle.std.proofs.Common.{length, take, ◌+◌, ◌≡◌, ◌≤◌}
use Rattle.zq_wal.specs.Format.{escaped}
use Rattle.zq_store.proofs.escapes.escapes.Given as goal

abbrev pub invariant-loop-byte : goal.invariant-loop-byte
invariant-loop-byte l = record {
  count : length (escaped (take l.byte-index l.bytes)) ≡ l.byte-index + l.count;
  few : l.count ≤ l.byte-index;
}

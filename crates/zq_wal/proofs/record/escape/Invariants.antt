use Rattle.std.proofs.Common.{◌≡◌, ◌++◌, take}
use Rattle.zq_wal.specs.Format.{escaped}
use Rattle.zq_wal.proofs.record.escape.Given as goal

abbrev pub invariant-loop-byte : goal.invariant-loop-byte
invariant-loop-byte l = l.out.items ≡ l.initial.out.items ++ escaped (take l.byte-index l.bytes)

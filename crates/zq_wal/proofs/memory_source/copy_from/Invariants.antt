use Rattle.std.proofs.Common.{◌≡◌, drop, length, take}
use Rattle.zq_wal.proofs.memory_source.copy_from.Given as goal

abbrev pub invariant-loop-i : goal.invariant-loop-i
invariant-loop-i l = (take l.i l.piece ≡ take l.i (drop l.at l.bytes)) × (length l.piece ≡ length l.initial.piece)

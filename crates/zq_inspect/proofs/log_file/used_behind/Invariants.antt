use Rattle.std.proofs.Common.{drop, ◌+◌, ◌≡◌}
use Rattle.zq_inspect.specs.Bytes.{used_from}
use Rattle.zq_inspect.proofs.log_file.used_behind.Given as goal

abbrev pub invariant-loop-byte : goal.invariant-loop-byte
invariant-loop-byte l = (l.at ≡ l.initial.at + l.byte-index)
    × (used_from l.at l.used (drop l.byte-index l.bytes) ≡ used_from l.fn.at l.fn.used l.bytes)

use Rattle.std.proofs.Common.{map, take, ◌++◌, ◌≡◌}
use Rattle.zq_log.specs.Lines.{plain}
use Rattle.zq_log.proofs.line.push_plain.Given as goal

abbrev pub invariant-loop-byte : goal.invariant-loop-byte
invariant-loop-byte l = l.bytes.items ≡ l.initial.bytes.items ++ map plain (take l.byte-index l.message)

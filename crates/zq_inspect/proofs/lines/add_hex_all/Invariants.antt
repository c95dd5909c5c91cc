use Rattle.std.proofs.Common.{take, ◌++◌, ◌≡◌}
use Rattle.std.specs.List.{flat_map}
use Rattle.zq_inspect.specs.Lines.{hex_pair}
use Rattle.zq_inspect.proofs.lines.add_hex_all.Given as goal

abbrev pub invariant-loop-byte : goal.invariant-loop-byte
invariant-loop-byte l =
    l.text.items ≡ l.initial.text.items ++ flat_map hex_pair (take l.byte-index l.bytes)

use Rattle.std.proofs.Common.{map, take, ◌≡◌}
use Rattle.std.specs.List.{flat_map}
use Rattle.zq_inspect.specs.Lines.{member_line}
use Rattle.zq_queue.specs.Lent.{lent_pair}
use Rattle.zq_inspect.proofs.quoting.member_lines.Given as goal

abbrev pub invariant-loop-pair : goal.invariant-loop-pair
invariant-loop-pair l =
    l.text.items ≡ flat_map member_line (map lent_pair (take l.pair-index l.pairs))

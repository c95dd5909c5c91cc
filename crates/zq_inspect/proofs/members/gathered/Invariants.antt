use Rattle.std.proofs.Common.{map, take, ◌≡◌}
use Rattle.std.specs.List.{flat_map}
use Rattle.zq_inspect.specs.Members.{listed_in}
use Rattle.zq_queue.specs.Lent.{lent_pair}
use Rattle.zq_inspect.proofs.members.gathered.Given as goal

abbrev pub invariant-loop-stage : goal.invariant-loop-stage
invariant-loop-stage l =
    map lent_pair l.pairs.items ≡ flat_map (listed_in l.key) (take l.stage-index l.stages)

use Rattle.std.proofs.Common.{map, take, ◌++◌, ◌≡◌}
use Rattle.zq_drill.specs.Lists.{listed}
use Rattle.zq_queue.specs.Lent.{lent_pair}
use Rattle.zq_drill.proofs.listing.add_heap.Given as goal

abbrev pub invariant-loop-pair : goal.invariant-loop-pair
invariant-loop-pair l = map listed l.list.items ≡ map listed l.initial.list.items ++ map lent_pair (take l.pair-index l.pair-items)

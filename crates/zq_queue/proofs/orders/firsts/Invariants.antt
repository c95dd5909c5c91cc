use Rattle.std.specs.Prelude.{map, take, vec_len, ◌++◌, ◌-◌, ◌≡◌}
use Rattle.zq_posheap.specs.Listing.{lent_pair}
use Rattle.zq_queue.proofs.orders.firsts.Given as goal

abbrev pub invariant-loop-pairs : goal.invariant-loop-pairs
invariant-loop-pairs l = map lent_pair l.firsts.items ++ take (l.count - vec_len l.firsts) l.pairs ≡ take l.count l.fn.pairs

abbrev pub decreases-loop-pairs : goal.decreases-loop-pairs
decreases-loop-pairs l = l.count - vec_len l.firsts

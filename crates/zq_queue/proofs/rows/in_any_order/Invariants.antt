use Rattle.std.specs.Prelude.{map, ◌++◌}
use Rattle.zq_posheap.specs.Listing.{IsListing}
use Rattle.zq_queue.specs.Lent.{lent_turned}
use Rattle.zq_queue.proofs.rows.in_any_order.Given as goal

abbrev pub invariant-loop-member : goal.invariant-loop-member
invariant-loop-member l = IsListing l.members.entries (map lent_turned l.rows.items ++ l.member-iterator)

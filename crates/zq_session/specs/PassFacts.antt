-- That a pass is one of a site's is a fact: it has one proof at most.

use Rattle.atomic_table.specs.Seated.{TableId, table_id_coded}
use Rattle.std.proofs.Props.{props}
use Rattle.std.specs.Prelude.{None, Option, Some, ◌≡◌}
use Rattle.zq_model.specs.Rule.{Rule}
use Rattle.zq_queue.specs.Codes.{rule_code}
use Rattle.zq_spread.specs.Passes.{IsCountOf, IsPassOf, IsSeatOf}
use Rattle.zq_spread.specs.HeapSlots.{IsOf}
use Rattle.zq_spread.specs.declared.locked_heap.LockedHeap.{LockedHeap}
use Rattle.zq_spread.specs.declared.pass.Pass.{Pass}
use Rattle.zq_spread.specs.declared.heap_slot.HeapSlot.{HeapSlot}
use Rattle.zq_spread.specs.declared.site.Site.{Site}
use Rattle.zq_tally.specs.declared.count.Count.{Count}
use Rattle.zq_ticketlock.specs.declared.seat.Seat.{Seat}
use base.Stored.{Coded-set}

table_fact : (a b : TableId) → IsProp (a ≡ b)
table_fact = Coded-set table_id_coded

rule_fact : (a b : Rule) → IsProp (a ≡ b)
rule_fact = Coded-set rule_code

of_fact : (room : HeapSlot) (kept : LockedHeap) → IsProp (IsOf room kept)
of_fact room kept = Prim.hlevel (props, table_fact, rule_fact)

seat_fact : (room : HeapSlot) (seat : Option (Option (Seat LockedHeap))) →
    IsProp (IsSeatOf room seat)
seat_fact room None = Prim.hlevel props
seat_fact room (Some None) = Prim.hlevel props
seat_fact room (Some (Some seat)) = Prim.hlevel (props, of_fact, table_fact)

count_fact : (room : HeapSlot) (count : Option (Option Count)) → IsProp (IsCountOf room count)
count_fact room None = Prim.hlevel props
count_fact room (Some None) = Prim.hlevel props
count_fact room (Some (Some count)) = Prim.hlevel (props, table_fact)

pub pass_fact : (site : Site) (pass : Pass) → IsProp (IsPassOf site pass)
pass_fact site pass = Prim.hlevel (props, seat_fact, count_fact)

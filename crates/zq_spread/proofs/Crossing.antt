-- Threads may share a site, and a pass of it may go to one of them.
use denote.Param.Send.{IsSend, IsSync, sendable}
use Rattle.std.proofs.Crossing.{crosses}
use Rattle.zq_journal.proofs.Crossing.{book_send}
use Rattle.zq_spread.specs.contracts.locked_heap.LockedHeap as LockedHeap
use Rattle.zq_spread.specs.contracts.pass.Pass as Pass
use Rattle.zq_spread.specs.contracts.heap_slot.HeapSlot as HeapSlot
use Rattle.zq_spread.specs.contracts.site.Site as Site
use Rattle.zq_tally.proofs.Crossing.{count_send, tally_send, tally_sync, total_send}
use Rattle.zq_ticketlock.proofs.Crossing.{lock_send, lock_sync, seat_send}

heap_send : IsSend LockedHeap.the_row
heap_send = search (book_send, total_send, sendable) depth 12

slot_send : IsSend HeapSlot.the_row
slot_send = search (heap_send, lock_send, tally_send, sendable) depth 12

slot_sync : IsSync HeapSlot.the_row
slot_sync = search (heap_send, lock_sync, tally_sync, sendable) depth 12

pub site_send : IsSend Site.the_row
site_send = search (slot_send, sendable, crosses) depth 12

pub site_sync : IsSync Site.the_row
site_sync = search (slot_sync, sendable, crosses) depth 12

pub pass_send : IsSend Pass.the_row
pass_send = search (heap_send, seat_send, count_send, sendable, crosses) depth 12

-- the same where they are fields of another type
pub site_field_send : IsSend Site.the_field.row
site_field_send = search (slot_send, sendable, crosses) depth 12

pub site_field_sync : IsSync Site.the_field.row
site_field_sync = search (slot_sync, sendable, crosses) depth 12

pub pass_field_send : IsSend Pass.the_field.row
pass_field_send = search (heap_send, seat_send, count_send, sendable, crosses) depth 30

-- The members of a key may go to another thread.
use denote.Param.Send.{IsSend, sendable}
use Rattle.std.proofs.Crossing.{crosses}
use Rattle.zq_entry.proofs.Crossing.{entry_send}
use Rattle.zq_entry.specs.contracts.entry.Entry as Entry
use Rattle.zq_posheap.proofs.Crossing.{heap_send, name_send}
use Rattle.zq_posheap.specs.contracts.pos_heap.PosHeap as PosHeap
use Rattle.zq_queue.specs.contracts.few.Member as Member
use Rattle.zq_queue.specs.contracts.indexed.Indexed as Indexed
use Rattle.zq_queue.specs.contracts.members.Members as Members
use Rattle.zq_queue.specs.contracts.queue.Queue as Queue
use Rattle.zq_ranked.proofs.Crossing.{ranked_send}

members_send : IsSend (PosHeap.the_row Entry.the_row)
members_send = heap_send Entry.the_row entry_send

indexed_send : IsSend Indexed.the_row
indexed_send = search (ranked_send, members_send, sendable, crosses) depth 30

member_send : IsSend Member.the_row
member_send = search (name_send, entry_send, sendable, crosses) depth 30

in_form_send : IsSend Members.the_row
in_form_send = search (member_send, indexed_send, sendable, crosses) depth 30

pub queue_send : IsSend Queue.the_row
queue_send = search (in_form_send, sendable, crosses) depth 30

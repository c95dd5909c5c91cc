-- Names may go to another thread, and a heap may where its values may.
use denote.RattleType.{RattleType}
use denote.Param.Send.{IsSend, sendable}
use Rattle.std.proofs.Crossing.{crosses}
use Rattle.zq_posheap.specs.contracts.name.Name as Name
use Rattle.zq_posheap.specs.contracts.pos_heap.PosHeap as PosHeap

pub name_send : IsSend Name.the_row
name_send = search (sendable, crosses) depth 30

pub heap_send : (V : RattleType) → IsSend V → IsSend (PosHeap.the_row V)
heap_send V v = search (name_send, sendable, crosses) depth 30

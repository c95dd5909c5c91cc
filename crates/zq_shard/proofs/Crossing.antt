-- A shard may go to another thread.
use denote.Param.Send.{IsSend, sendable}
use Rattle.std.proofs.Crossing.{crosses}
use Rattle.zq_posheap.proofs.Crossing.{name_send}
use Rattle.zq_queue.proofs.Crossing.{queue_send}
use Rattle.zq_shard.specs.contracts.shard.Shard as Shard

pub shard_send : IsSend Shard.the_row
shard_send = search (queue_send, name_send, sendable, crosses) depth 30

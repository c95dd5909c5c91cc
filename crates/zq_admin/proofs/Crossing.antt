-- What a walk over keys found may go to another thread.
use denote.Param.Send.{IsSend, sendable}
use Rattle.std.proofs.Crossing.{crosses}
use Rattle.zq_admin.specs.contracts.keys_text.Found as Found
use Rattle.zq_admin.specs.contracts.largest.KeyCount as KeyCount

count_send : IsSend KeyCount.the_row
count_send = search (sendable, crosses) depth 100 fits 100000

pub found_send : IsSend Found.the_row
found_send = search (count_send, sendable, crosses) depth 100 fits 100000

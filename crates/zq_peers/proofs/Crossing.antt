-- Threads may share a mailbox.
use denote.Param.Send.{IsSend, IsSync, sendable}
use Rattle.std.proofs.Crossing.{crosses}
use Rattle.zq_links.specs.contracts.message.Message as Message
use Rattle.zq_peers.specs.contracts.mailbox.Mailbox as Mailbox

message_send : IsSend Message.the_row
message_send = search (sendable, crosses) depth 30

pub mailbox_sync : IsSync Mailbox.the_row
mailbox_sync = search (message_send, sendable, crosses) depth 100 fits 100000

-- An entry may go to another thread.
use denote.Param.Send.{IsSend, sendable}
use Rattle.std.proofs.Crossing.{crosses}
use Rattle.zq_entry.specs.contracts.addition.Addition as Addition
use Rattle.zq_entry.specs.contracts.additions.Additions as Additions
use Rattle.zq_entry.specs.contracts.entry.Entry as Entry
use Rattle.zq_entry.specs.contracts.sums.Sums as Sums

sums_send : IsSend Sums.the_row
sums_send = search (sendable, crosses) depth 30

addition_send : IsSend Addition.the_row
addition_send = search (sums_send, sendable, crosses) depth 30

additions_send : IsSend Additions.the_row
additions_send = search (addition_send, sendable, crosses) depth 30

pub entry_send : IsSend Entry.the_row
entry_send = search (additions_send, sendable, crosses) depth 30

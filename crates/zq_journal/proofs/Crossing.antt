-- A book may go to another thread.
use denote.Param.Send.{IsSend, sendable}
use Rattle.std.proofs.Crossing.{crosses}
use Rattle.zq_dots.specs.contracts.op.Op as Op
use Rattle.zq_entry.proofs.Crossing.{entry_send}
use Rattle.zq_journal.specs.contracts.book.Book as Book
use Rattle.zq_journal.specs.contracts.records.Record as Record
use Rattle.zq_shard.proofs.Crossing.{shard_send}

operation_send : IsSend Op.the_row
operation_send = search (sendable, crosses) depth 30

record_send : IsSend Record.the_row
record_send = search (operation_send, entry_send, sendable, crosses) depth 30

pub book_send : IsSend Book.the_row
book_send = search (shard_send, record_send, sendable, crosses) depth 30

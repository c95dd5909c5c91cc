-- How a queue in memory of its own is lent to be changed.

use Rattle.std.specs.Borrow.{Fml, Lends, MutBor}
use Rattle.zq_queue.specs.Queued.{Queued}
use Rattle.zq_queue.specs.contracts.queue.Queue.{the_row as queue_row}
use Rattle.zq_shard.specs.contracts.boxed_queue.BoxedQueue.{the_row}

-- it ends as what was written through the loan
abbrev pub LendsQueue : MutBor Queued → MutBor Queued → Fml
LendsQueue lender loan = Lends the_row queue_row lender loan (λ queue. queue)

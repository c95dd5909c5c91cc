use Rattle.zq_resp.specs.Reply.{reply_bytes}
use Rattle.zq_session.proofs.OfSets.{goes_on, opens, queues_begun, queues_meant, reads_set}
use Rattle.zq_session.proofs.meanings.meaning.Goals as goal

pub returns-clause-opens : goal.returns-clause-opens
returns-clause-opens c K heaps = opens K heaps

pub returns-clause-queues : goal.returns-clause-queues
returns-clause-queues c K S books of key = queues_meant K S books of key

pub returns-clause-begins : goal.returns-clause-begins
returns-clause-begins c books = queues_begun books

pub returns-clause-reads : goal.returns-clause-reads
returns-clause-reads c K S old new words reply of question answered = reads_set K S old new (reply_bytes reply) of words question answered

pub returns-clause-goes_on : goal.returns-clause-goes_on
returns-clause-goes_on c K S old new words reply of is answered unworn = goes_on K S old new (reply_bytes reply) of unworn words is answered

use Rattle.std.proofs.Common.{arith}
use Rattle.zq_model.proofs.MeantQueues.{queue_is, whole_queue_is}
use Rattle.zq_notes.proofs.EachRun.{reads_each}
use Rattle.zq_notes.proofs.Histories.{agree, alike, reads, serves, stays}
use Rattle.zq_notes.proofs.ReadOff.{reads_so}
use Rattle.zq_notes.proofs.sets.reading_notes.Goals as goal

pub returns-clause-reads : goal.returns-clause-reads
returns-clause-reads c rule K site W two world = reads rule K site W two world c.naming.ensures.score

pub returns-clause-serves : goal.returns-clause-serves
returns-clause-serves c = serves c.naming.ensures.score

pub returns-clause-queues : goal.returns-clause-queues
returns-clause-queues c rule K S two world key = whole_queue_is rule K S key world (omega (arith, two))

pub returns-clause-drawn : goal.returns-clause-drawn
returns-clause-drawn c rule K S heaps world key = queue_is rule K S key heaps world

pub returns-clause-asks : goal.returns-clause-asks
returns-clause-asks c = reads_so

pub returns-clause-asks_each : goal.returns-clause-asks_each
returns-clause-asks_each c = reads_each

pub returns-clause-stays : goal.returns-clause-stays
returns-clause-stays c = stays

pub returns-clause-alike : goal.returns-clause-alike
returns-clause-alike c = alike

pub returns-clause-agree : goal.returns-clause-agree
returns-clause-agree c = agree

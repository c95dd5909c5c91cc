use Rattle.zq_queue.specs.Built.{AreCompared}
use Rattle.zq_queue.proofs.copies.is_within.Given as goal

abbrev pub invariant-loop-member : goal.invariant-loop-member
invariant-loop-member l = AreCompared l.members.entries l.member-iterator l.queue.entries

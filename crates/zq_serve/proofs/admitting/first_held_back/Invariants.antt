use Rattle.std.proofs.Common.{IsTrue, take}
use Rattle.zq_serve.proofs.admitting.first_held_back.Given as goal
use Rattle.zq_serve.specs.Admission.{are_admitted}

abbrev pub invariant-loop-queued : goal.invariant-loop-queued
invariant-loop-queued l = IsTrue (are_admitted l.admits (take l.queued-index l.queue))

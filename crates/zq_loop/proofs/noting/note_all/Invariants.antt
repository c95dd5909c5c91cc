use Rattle.zq_loop.proofs.noting.note_all.Given as goal
use Rattle.zq_loop.specs.Life.{Rests}

abbrev pub invariant-loop-event : goal.invariant-loop-event
invariant-loop-event g l = Rests l.initial.clients l.clients

use Rattle.zq_loop.proofs.worker.Worker.sweep.Given as goal
use Rattle.zq_loop.specs.Life.{Rests}

abbrev pub invariant-loop-place : goal.invariant-loop-place
invariant-loop-place g l = Rests l.initial.self.clients.items l.self.clients.items

use Rattle.zq_loop.proofs.worker.Worker.take_in.Given as goal
use Rattle.zq_loop.specs.Life.{Rests}

abbrev pub invariant-loop : goal.invariant-loop
invariant-loop g l = Rests l.initial.self.clients.items l.self.clients.items

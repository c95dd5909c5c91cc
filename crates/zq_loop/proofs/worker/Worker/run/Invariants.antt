use Rattle.zq_loop.proofs.worker.Worker.run.Given as goal
use Rattle.zq_loop.specs.Life.{Lives, moment}

abbrev pub invariant-loop : goal.invariant-loop
invariant-loop g l = Lives (λ _ _ _. Unit {0}) g.A.Attends.others g.A.Attends.answers (moment l.initial.attending.answerer l.initial.self.clients.items) (moment l.attending.answerer l.self.clients.items)

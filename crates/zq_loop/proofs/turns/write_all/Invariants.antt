use Rattle.zq_loop.specs.Life.{IsTurn, moment}
use Rattle.zq_loop.proofs.turns.write_all.Given as goal

abbrev pub invariant-loop-place : goal.invariant-loop-place
invariant-loop-place g l = IsTurn g.S.Socket.does g.A.Attends.others g.A.Attends.answers (moment l.attending.answerer l.initial.clients) (moment l.attending.answerer l.clients)

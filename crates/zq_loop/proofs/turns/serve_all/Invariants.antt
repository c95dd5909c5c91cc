use Rattle.std.proofs.Common.{length, ◌≡◌}
use Rattle.zq_loop.specs.Life.{IsTurn, moment}
use Rattle.zq_loop.proofs.turns.serve_all.Given as goal

abbrev pub invariant-loop-place : goal.invariant-loop-place
invariant-loop-place g l = (length l.buffer ≡ length l.initial.buffer)
    × IsTurn g.S.Socket.does g.A.Attends.others g.A.Attends.answers (moment l.initial.attending.answerer l.initial.clients) (moment l.attending.answerer l.clients)

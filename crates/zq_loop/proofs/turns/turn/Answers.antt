use Rattle.zq_loop.proofs.Living.{turn-join}
use Rattle.zq_loop.proofs.turns.turn.Goals as goal

pub returns : goal.returns
returns g c = turn-join g.S.Socket.does g.A.Attends.others g.A.Attends.answers _ _ _ c.serve_all.ensures c.write_all.ensures

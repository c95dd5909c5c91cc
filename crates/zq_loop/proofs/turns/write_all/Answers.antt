use Rattle.zq_loop.proofs.Living.{turn-join}
use Rattle.zq_loop.proofs.turns.write_all.Goals as goal

pub loop-place-preserved : goal.loop-place-preserved
loop-place-preserved g c = turn-join g.S.Socket.does g.A.Attends.others g.A.Attends.answers _ _ _ c.loop-place.invariant c.write_at.ensures

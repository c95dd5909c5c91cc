use Rattle.std.proofs.Common.{◌∙◌}
use Rattle.zq_loop.proofs.Living.{turn-join}
use Rattle.zq_loop.proofs.turns.serve_all.Goals as goal

pub loop-place-preserved : goal.loop-place-preserved
loop-place-preserved g c = (c.serve_at.ensures.buffer ∙ c.loop-place.invariant.0, turn-join g.S.Socket.does g.A.Attends.others g.A.Attends.answers _ _ _ c.loop-place.invariant.1 c.serve_at.ensures.turned)

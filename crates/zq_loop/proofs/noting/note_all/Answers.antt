use Rattle.zq_loop.proofs.Living.{rests-join}
use Rattle.zq_loop.proofs.noting.note_all.Goals as goal

pub loop-event-preserved : goal.loop-event-preserved
loop-event-preserved g c = rests-join _ _ _ c.loop-event.invariant c.note_at.ensures

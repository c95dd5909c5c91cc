use Rattle.std.proofs.Common.{refl}
use Rattle.zq_session.proofs.KnownBytes.{keeps-join, keeps-none, kept-appends}
use Rattle.zq_session.proofs.transfer.put_some.Goals as goal

pub loop-try-init : goal.loop-try-init
loop-try-init g c = keeps-none _

pub loop-try-preserved : goal.loop-try-preserved
loop-try-preserved g c = keeps-join _ _ _ c.loop-try.invariant c.in-Err.ensures.bytes

pub returns-in-Ok : goal.returns-in-Ok
returns-in-Ok g c = (c.in-Ok.ensures.bound, kept-appends _ _ _ _ c.loop-try.invariant c.in-Ok.ensures.bytes)

pub returns-then-ne : goal.returns-then-ne
returns-then-ne g c = (refl, keeps-join _ _ _ c.loop-try.invariant c.in-Err.ensures.bytes)

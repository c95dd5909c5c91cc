use Rattle.std.proofs.Common.{arith, refl}
use Rattle.zq_session.proofs.KnownBytes.{keeps-join, keeps-none, kept-consumes}
use Rattle.zq_session.proofs.transfer.read_some.Goals as goal

pub loop-try-init : goal.loop-try-init
loop-try-init g c = (keeps-none _, refl)

pub returns-in-Ok : goal.returns-in-Ok
returns-in-Ok g c =
    (c.in-Ok.ensures.bound.0, kept-consumes _ _ _ _ c.loop-try.invariant.0 c.in-Ok.ensures.bytes.0, λ none. c.in-Ok.ensures.bytes.1 none (omega (arith, c.requires, c.loop-try.invariant.1, c.read.auto.buf)))

pub returns-then-ne : goal.returns-then-ne
returns-then-ne g c = (refl, keeps-join _ _ _ c.loop-try.invariant.0 c.in-Err.ensures.bytes)

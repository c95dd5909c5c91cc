use Rattle.std.proofs.Common.{inl, refl}
use Rattle.zqueue.proofs.drilling.drill_out.Goals as goal

pub returns-in-Ok : goal.returns-in-Ok
returns-in-Ok g c = inl (c.in-Ok.field-0, c.in-Ok.ensures.0, c.in-Ok.ensures.1, c.in-Ok.ensures.2, refl)

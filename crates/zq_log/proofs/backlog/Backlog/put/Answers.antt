use Rattle.std.proofs.Common.{inl, refl}
use Rattle.zq_log.proofs.backlog.Backlog.put.Goals as goal

pub returns-clause-one : goal.returns-clause-one
returns-clause-one c =
    inl (record { lost = c.args.self.now.lost; line = c.args.line }, refl, refl, c.in-Ok.ensures.items, refl, refl)

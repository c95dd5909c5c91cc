use Rattle.std.proofs.Common.{subst, sym}
use Rattle.zq_loop.proofs.Living.{rests_taken}
use Rattle.zq_loop.proofs.worker.Worker.remove.Goals as goal
use Rattle.zq_loop.specs.Life.{Rests}

pub returns-in_default-clause-rests : goal.returns-in_default-clause-rests
returns-in_default-clause-rests g c =
    let old = c.args.self.now.clients.items in
    subst (λ items. Rests old items) (sym c.take.ensures) (rests_taken old c.args.place)

pub returns-clause-rests : goal.returns-clause-rests
returns-clause-rests g c =
    let old = c.args.self.now.clients.items in
    subst (λ items. Rests old items) (sym c.take.ensures) (rests_taken old c.args.place)

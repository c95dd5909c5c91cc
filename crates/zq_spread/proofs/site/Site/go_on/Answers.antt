use Rattle.std.proofs.Common.{IfOk, subst, sym}
use Rattle.zq_spread.proofs.site.Site.go_on.Goals as goal
use Rattle.zq_spread.specs.Several.{HasPushed, helds_of}

pub returns-in-Ok-clause-begun : goal.returns-in-Ok-clause-begun
returns-in-Ok-clause-begun c =
    subst (λ r. IfOk r (λ stamp. HasPushed stamp c.args.held (helds_of c.args.holds.now) (helds_of c.push.new.self))) (sym c.in-Ok.is) (c.begun.result, c.push.ensures.pushed, c.begun.ensures)

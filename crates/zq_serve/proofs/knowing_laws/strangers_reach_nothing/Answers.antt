use Rattle.zq_serve.proofs.Desks.{nothing_reached}
use Rattle.zq_serve.proofs.knowing_laws.strangers_reach_nothing.Goals as goal
use Rattle.zq_serve.specs.Preparing.{inside}

pub returns : goal.returns
returns g c = λ profile old new own own_new words reply.
    nothing_reached (inside g.A.Answers.answers g.A.Transacts.prepares g.A.Transacts.transacts g.A.Transacts.watches) profile old new words reply own own_new

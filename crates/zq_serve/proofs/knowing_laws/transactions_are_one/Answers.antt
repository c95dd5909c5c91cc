use Rattle.zq_serve.proofs.Together.{answered_as_one}
use Rattle.zq_serve.proofs.knowing_laws.transactions_are_one.Goals as goal
use Rattle.zq_serve.specs.Preparing.{inside}

pub returns : goal.returns
returns g c = λ profile begun waited ended requests queue old new name reply.
    answered_as_one (inside g.A.Answers.answers g.A.Transacts.prepares g.A.Transacts.transacts g.A.Transacts.watches) profile begun waited ended requests queue old new name reply

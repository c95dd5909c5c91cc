use Rattle.zq_wire.proofs.Exactly.{welcome_by_secret, welcome_openly}
use Rattle.zq_wire.proofs.greeting_laws.welcome_exactly.Goals as goal

pub returns-clause-openly : goal.returns-clause-openly
returns-clause-openly c = welcome_openly

pub returns-clause-by_secret : goal.returns-clause-by_secret
returns-clause-by_secret c = welcome_by_secret

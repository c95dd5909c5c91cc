use Rattle.std.proofs.Common.{inr}
use Rattle.zq_links.proofs.batch.read_pushed.Goals as goal

pub returns-in-Ok-clause-found : goal.returns-in-Ok-clause-found
returns-in-Ok-clause-found c = inr c.in-Ok.ensures.found

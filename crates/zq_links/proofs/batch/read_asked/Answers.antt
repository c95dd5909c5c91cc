use Rattle.std.proofs.Common.{inl}
use Rattle.zq_links.proofs.batch.read_asked.Goals as goal

pub returns-in-Ok-clause-found : goal.returns-in-Ok-clause-found
returns-in-Ok-clause-found c = inl c.in-Ok.ensures.found

use Rattle.zq_notes.proofs.Linked.{linked}
use Rattle.zq_notes.proofs.sites.linking.Goals as goal

pub returns : goal.returns
returns c = record { links = λ limits rule K sites events two are. linked limits rule K two c.naming.ensures.score sites events are }

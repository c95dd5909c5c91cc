use Rattle.zq_notes.proofs.Histories.{gathers, opens}
use Rattle.zq_notes.proofs.sets.gathering_notes.Goals as goal

pub returns-clause-opens : goal.returns-clause-opens
returns-clause-opens c = opens

pub returns-clause-gathers : goal.returns-clause-gathers
returns-clause-gathers c = gathers

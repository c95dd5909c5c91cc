use Rattle.zq_model.proofs.Entries.{join_entries, set_entries, step_entries}
use Rattle.zq_model.proofs.rows.filling.Goals as goal

pub returns-clause-of_set : goal.returns-clause-of_set
returns-clause-of_set c = set_entries

pub returns-clause-of_join : goal.returns-clause-of_join
returns-clause-of_join c = join_entries

pub returns-clause-of_step : goal.returns-clause-of_step
returns-clause-of_step c = step_entries

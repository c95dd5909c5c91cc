use Rattle.zq_model.proofs.KeptBooks.{after_more, after_parts, after_replay, kept_cut, kept_longer, undone_cut, undone_is, undone_recorded}
use Rattle.zq_model.proofs.undo.undoing.Goals as goal

pub returns-clause-back : goal.returns-clause-back
returns-clause-back c = undone_is

pub returns-clause-longer : goal.returns-clause-longer
returns-clause-longer c = kept_longer

pub returns-clause-cut : goal.returns-clause-cut
returns-clause-cut c = kept_cut

pub returns-clause-parts : goal.returns-clause-parts
returns-clause-parts c = after_parts

pub returns-clause-more : goal.returns-clause-more
returns-clause-more c = after_more

pub returns-clause-records : goal.returns-clause-records
returns-clause-records c = undone_recorded

pub returns-clause-rest : goal.returns-clause-rest
returns-clause-rest c = undone_cut

pub returns-clause-replay : goal.returns-clause-replay
returns-clause-replay c = after_replay

use Rattle.zq_backlog.proofs.Comes.{is_bounded, newest_is_there, none_is_invented, stays_log}
use Rattle.zq_backlog.proofs.backlog_laws.logs_keep.Goals as goal

pub returns-clause-log : goal.returns-clause-log
returns-clause-log c = stays_log

pub returns-clause-invented : goal.returns-clause-invented
returns-clause-invented c = none_is_invented

pub returns-clause-newest : goal.returns-clause-newest
returns-clause-newest c = newest_is_there

pub returns-clause-bounded : goal.returns-clause-bounded
returns-clause-bounded c = is_bounded

use Rattle.zq_backlog.proofs.Batches.{is_pushed, none_is_left_out}
use Rattle.zq_backlog.proofs.Looks.{are_few, is_one}
use Rattle.zq_backlog.proofs.backlog_laws.batches_push.Goals as goal

pub returns-clause-pushed : goal.returns-clause-pushed
returns-clause-pushed c = is_pushed

pub returns-clause-whole : goal.returns-clause-whole
returns-clause-whole c = none_is_left_out

pub returns-clause-few : goal.returns-clause-few
returns-clause-few c = are_few

pub returns-clause-one : goal.returns-clause-one
returns-clause-one c = is_one

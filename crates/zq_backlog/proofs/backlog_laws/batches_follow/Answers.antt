use Rattle.zq_backlog.proofs.Batches.{all_are_sent, none_is_ahead}
use Rattle.zq_backlog.proofs.backlog_laws.batches_follow.Goals as goal

pub returns-clause-next : goal.returns-clause-next
returns-clause-next c = none_is_ahead

pub returns-clause-all : goal.returns-clause-all
returns-clause-all c = all_are_sent

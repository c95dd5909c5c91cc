use Rattle.zq_model.proofs.MeantQueues.{queue_is, queue_one, whole_queue_is, whole_queue_one}
use Rattle.zq_model.proofs.queues.queue_means.Goals as goal

pub returns-clause-named : goal.returns-clause-named
returns-clause-named c = queue_is

pub returns-clause-whole : goal.returns-clause-whole
returns-clause-whole c = whole_queue_is

pub returns-clause-one : goal.returns-clause-one
returns-clause-one c = queue_one

pub returns-clause-one_whole : goal.returns-clause-one_whole
returns-clause-one_whole c rule S key q r = whole_queue_one rule S S key q r (λ x m means. means) (λ x m means. means)

use Rattle.zq_model.proofs.MeantQueues.{whole_queue_is}
use Rattle.zq_semantics.proofs.FewMembers.{few_members}
use Rattle.zq_semantics.specs.Reading.{heaps_in, queues_over}
use Rattle.zq_semantics.proofs.answers.counting.Goals as goal

pub returns : goal.returns
returns c = record { few = λ rule K S some world key. few_members K S world key rule (queues_over rule S (heaps_in K) key) (whole_queue_is rule K S key world some) }

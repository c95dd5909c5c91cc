use Rattle.std.proofs.Common.{ap}
use Rattle.zq_model.specs.Moves.{Queues}
use Rattle.zq_semantics.proofs.Meant.{meant_over, same_over}
use Rattle.zq_semantics.specs.Procedures.{answered_over}
use Rattle.zq_semantics.specs.Reading.{heaps_in}
use Rattle.zq_semantics.proofs.procedures.answering_each.Goals as goal

pub returns-clause-same : goal.returns-clause-same
returns-clause-same c rule K S T p world same = ap (λ (queues : Queues). answered_over queues p) (same_over rule K S T (heaps_in K) world same)

pub returns-clause-meant : goal.returns-clause-meant
returns-clause-meant c rule K S p queues world some are = ap (λ (q : Queues). answered_over q p) (meant_over rule K S queues world some are)

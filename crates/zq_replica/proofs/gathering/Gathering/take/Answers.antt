use Rattle.zq_replica.proofs.Fed.{fed_once, no_fault}
use Rattle.zq_replica.proofs.gathering.Gathering.take.Goals as goal

pub returns-in-Ok-clause-fed : goal.returns-in-Ok-clause-fed
returns-in-Ok-clause-fed c =
    fed_once c.args.op.now c.args.self.now.receiving c.take.new.self
    (λ other. no_fault _ _ (c.in-Ok.ensures.wrong_heap.1 other))
    (λ early. no_fault _ _ (c.in-Ok.ensures.gap.1 early)) c.in-Ok.ensures.staged
    c.take.ensures.spot

use Rattle.zq_replica.proofs.Grown.{of_answer}
use Rattle.zq_replica.proofs.exchanging.take_since.Goals as goal

pub returns-in-Ops : goal.returns-in-Ops
returns-in-Ops c =
    of_answer c.args.since.now _ c.deref.result.now _ _ c.in-Ops.is c.deref.ensures.value c.take_all.ensures

use Rattle.std.proofs.Common.{ap, refl, sym, ◌∙◌}
use Rattle.zq_shard.proofs.SetSteps.{known_holds}
use Rattle.zq_shard.specs.Taken.{answer_of}
use Rattle.zq_shard.proofs.shard.Shard.take.Goals as goal

pub returns-in-Known-clause-set : goal.returns-in-Known-clause-set
returns-in-Known-clause-set c = λ S holds world _.
    let here = c.in_ok-judge.ensures.placed.0 refl in
    known_holds c.args.self.now c.args.op.now.operation S here.heap (sym c.in_ok-judge.ensures.judged ∙ ap answer_of c.in-Known.is) holds world

use Rattle.std.proofs.Common.{ap}
use Rattle.zq_shard.proofs.SetSteps.{made_holds}
use Rattle.zq_shard.proofs.shard.Shard.make.Goals as goal

pub returns-clause-set : goal.returns-clause-set
returns-clause-set c = λ S holds.
    let e = c.in_ok-op.ensures in
    let t = c.in_ok-put_in.ensures in
    made_holds c.args.self.now c.put_in.new.self c.in_ok-op.op S e.sound e.placed (ap (λ p. p.operation.seen) e.made) t.heap t.heaps t.taken holds

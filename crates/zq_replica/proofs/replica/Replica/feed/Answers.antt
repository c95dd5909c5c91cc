use Rattle.std.proofs.Common.{refl}
use Rattle.zq_replica.proofs.Gathers.{fed_some}
use Rattle.zq_replica.proofs.replica.Replica.feed.Goals as goal

pub returns-in-Some-clause-fed : goal.returns-in-Some-clause-fed
returns-in-Some-clause-fed c =
    fed_some c.take_all.result c.args.ops.now c.args.self.now.gathering _ c.in-Some.gathering
    c.take_all.new.self c.in-Some.is refl c.take_all.ensures.from c.take_all.ensures.fed

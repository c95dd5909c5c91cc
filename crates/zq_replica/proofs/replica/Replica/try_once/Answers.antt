use Rattle.zq_replica.proofs.Tried.{tried_by}
use Rattle.zq_replica.proofs.replica.Replica.try_once.Goals as goal

pub returns-in-Ok-true-clause-tried : goal.returns-in-Ok-true-clause-tried
returns-in-Ok-true-clause-tried g c =
    tried_by c.replace.result c.args.shard.now c.grow.new.shard _ c.args.node.now c.grow.new.node
    c.replace.new.node c.in-Ok-true.ensures.grown c.replace.ensures.came

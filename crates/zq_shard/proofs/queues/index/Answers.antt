use Rattle.std.proofs.Common.{ap, ◌∙◌}
use Rattle.indexmap.specs.IndexMap.{set_value_at}
use Rattle.zq_shard.proofs.AtIndex.{lent_at, rewritten_at}
use Rattle.zq_shard.proofs.queues.index.Goals as goal

pub returns-in-Some : goal.returns-in-Some
returns-in-Some c =
    ap (set_value_at c.args.queues.now.entries c.in-Some.place) c.index.ensures
    ∙ rewritten_at c.args.queues.now.entries c.in-Some.place _ c.get_mut.result.now (lent_at c.args.queues.now.entries c.in-Some.place _ c.pair_mut-boxed.ensures.value c.get_mut.ensures.value)

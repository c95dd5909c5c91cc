use Rattle.std.proofs.Common.{◌-◌, ◌∙◌}
use Rattle.zq_commands.proofs.ScoreBounds.{count_within}
use Rattle.zq_shard.specs.Shard.{queue_at}
use Rattle.zq_commands.proofs.one_book.count_between.Goals as goal

pub returns : goal.returns
returns c =
    c.saturating_sub.ensures
    ∙ (λ k. c.count_to-below.ensures k - c.count_to.ensures k)
    ∙ count_within c.args.min.now c.args.max.now (queue_at c.args.shard.now c.args.key.now)

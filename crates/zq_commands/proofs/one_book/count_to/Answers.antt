use Rattle.std.proofs.Common.{ap, sym, ◌∙◌}
use Rattle.std.specs.Prelude.{count_by}
use Rattle.zq_commands.proofs.ScoreBounds.{below_highest, below_limit, below_lowest}
use Rattle.zq_shard.specs.Shard.{queue_at}
use Rattle.zq_commands.proofs.one_book.count_to.Goals as goal

pub returns-in-Lowest : goal.returns-in-Lowest
returns-in-Lowest c =
    let q = queue_at c.args.shard.now c.args.key.now in
    below_lowest c.args.is_out q ∙ ap (λ limit. count_by (below_limit c.args.is_out limit) q) (sym c.in-Lowest.is)

pub returns-in-Highest : goal.returns-in-Highest
returns-in-Highest c =
    let q = queue_at c.args.shard.now c.args.key.now in
    c.count.ensures.queue ∙ below_highest c.args.is_out q ∙ ap (λ limit. count_by (below_limit c.args.is_out limit) q) (sym c.in-Highest.is)

use Rattle.std.proofs.Common.{ap, append-nil, map, sym, ◌++◌, ◌∙◌}
use Rattle.zq_model.specs.Rows.{row_of}
use Rattle.zq_shard.proofs.Blocks.{no_block}
use Rattle.zq_shard.specs.Listed.{lent_row}
use Rattle.zq_shard.specs.Queues.{entries_at}
use Rattle.zq_shard.proofs.queues.Queues.push_rows.Goals as goal

pub returns-in-None : goal.returns-in-None
returns-in-None c =
    sym (append-nil (map lent_row c.args.rows.now.items))
    ∙ ap (λ b. map lent_row c.args.rows.now.items ++ map row_of b) (sym (no_block c.args.key.now (entries_at c.args.self.now.members c.args.key.now) c.in-None.ensures.absent))

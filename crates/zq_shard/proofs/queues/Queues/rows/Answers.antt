use Rattle.std.proofs.Common.{ap, map, take_all, ◌∙◌}
use Rattle.std.specs.FinMap.{entries}
use Rattle.zq_dots.specs.Rule.{rule_of}
use Rattle.zq_model.specs.Rows.{row_of}
use Rattle.zq_shard.proofs.Blocks.{blocks, entries_of_blocks, rows_more}
use Rattle.zq_shard.proofs.Looking.{entries_seen}
use Rattle.zq_shard.specs.Listed.{lent_key, lent_row}
use Rattle.zq_shard.specs.Queues.{Keyed, entries_at}
use Rattle.zq_shard.proofs.queues.Queues.rows.Goals as goal

pub loop-key-init : goal.loop-key-init
loop-key-init c = ap (map lent_row) c.new-rows.ensures.items

pub loop-key-preserved : goal.loop-key-preserved
loop-key-preserved c =
    rows_more (entries_at c.args.self.now.members) c.deref-key-items.result.now c.loop-key.key-index _ (map lent_row c.loop-key.rows.items) (map lent_row c.push_rows.new.rows.items)
    c.loop-key-test.true c.loop-key.invariant c.in_ok-push_rows.ensures

pub returns : goal.returns
returns c =
    let held = entries_at c.args.self.now.members in
    let queues = c.self.inside.queues.entries in
    c.loop-key.invariant
    ∙ ap (λ xs. map row_of (blocks held (map lent_key xs))) (take_all c.loop-key.key-index c.deref-key-items.result.now c.loop-key-test.false ∙ c.deref-key-items.ensures.value)
    ∙ ap (map row_of) (entries_of_blocks queues held (map lent_key c.in_ok-keys.keys.items)
    (entries_seen c.self.inside.queues.entries (rule_of c.self.inside.rule) c.args.self.now c.self.view_is) c.in_ok-keys.ensures.rising c.in_ok-keys.ensures.all
    ∙ ap (λ (s : Keyed). entries s.members) c.self.view_is)

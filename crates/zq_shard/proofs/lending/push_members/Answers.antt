use Rattle.std.proofs.Common.{[], ap, append-nil, map, sym, take_all, ◌++◌, ◌∙◌, ◌∷◌}
use Rattle.std.proofs.lemmas.List.{map-append}
use Rattle.zq_model.specs.Rows.{row_of}
use Rattle.zq_queue.specs.Lent.{lent_entry}
use Rattle.zq_shard.proofs.Blocks.{members_more}
use Rattle.zq_shard.specs.Listed.{lent_row}
use Rattle.zq_shard.proofs.lending.push_members.Goals as goal

pub loop-member-init : goal.loop-member-init
loop-member-init c = ap (map lent_row) c.in_ok-reserve.ensures.items ∙ sym (append-nil (map lent_row c.args.rows.now.items))

pub loop-member-preserved : goal.loop-member-preserved
loop-member-preserved c =
    members_more c.args.key.now c.deref-member-items.result.now c.loop-member.member-index c.loop-member-item.result (map lent_row c.args.rows.now.items) (map lent_row c.loop-member.rows.items) (map lent_row c.push.new.self.items)
    c.loop-member-test.true c.loop-member.invariant
    (ap (map lent_row) c.in_ok-push.ensures.items ∙ map-append lent_row c.loop-member.rows.items (_ ∷ [])
    ∙ ap (λ x. map lent_row c.loop-member.rows.items ++ row_of ((c.args.key.now, (lent_entry x).0), (lent_entry x).1) ∷ []) c.loop-member-item.is)

pub returns : goal.returns
returns c =
    c.loop-member.invariant
    ∙ ap (λ xs. map lent_row c.args.rows.now.items ++ map row_of (map (λ e. ((c.args.key.now, e.0), e.1)) xs))
    (ap (map lent_entry) (take_all c.loop-member.member-index c.deref-member-items.result.now c.loop-member-test.false ∙ c.deref-member-items.ensures.value) ∙ c.in_ok-members.ensures)

use Rattle.std.proofs.Common.{[], ap, map, subst, sym, ◌∙◌, ◌≡◌}
use Rattle.zq_model.specs.Rows.{image_of_rows}
use Rattle.zq_model.specs.Sets.{IsIn}
use Rattle.zq_shard.specs.Listed.{lent_row}
use Rattle.zq_stage.proofs.Portions.{is_portion, lent_among}
use Rattle.zq_stage.proofs.portion.Portion.of.Goals as goal
use Rattle.zq_stage.specs.Rows.{with_rows}

pub replace-requires-clause-among : goal.replace-requires-clause-among
replace-requires-clause-among c = λ row i.
    lent_among c.args.shard.now c.in_ok-piece.piece.rows.items c.in_ok-piece.ensures.piece.entries row (subst (λ rows. IsIn row (map lent_row rows)) c.deref.ensures.value i)

pub returns : goal.returns
returns c =
    let its = c.in_ok-piece.ensures in
    let done = c.in_ok-replace.ensures in
    let made = c.of_vector-part.ensures in
    let first : c.of_vector-part.result.image ≡ image_of_rows c.args.shard.now.image.vector [] = made.image ∙ ap (λ v. image_of_rows v []) c.vector.ensures.same in
    let image : c.replace.new.shard.image ≡ with_rows (map lent_row c.in_ok-piece.piece.rows.items) (image_of_rows c.args.shard.now.image.vector [])
    = done.image ∙ (λ k. with_rows (map lent_row (c.deref.ensures.value k)) (first k)) in
    record {
      portion = is_portion c.args.shard.now c.replace.new.shard c.args.spot c.in_ok-piece.piece.next c.args.limits c.in_ok-piece.piece.rows.items c.vector.ensures.kept its.piece its.few its.light its.some
          (sym (done.heap ∙ made.heap ∙ c.heap-heap.ensures.same))
          (sym (done.heaps ∙ made.heaps ∙ c.heaps-heaps.ensures.same))
          (done.rule ∙ made.rule ∙ c.rule-rule.ensures)
          image;
    }

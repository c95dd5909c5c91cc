use Rattle.std.proofs.Common.{[], ap, arith, sym, take, ◌++◌, ◌∙◌, ◌∷◌}
use Rattle.std.proofs.lemmas.List.{take_more}
use Rattle.zq_backlog.proofs.Trims.{added_all_push}
use Rattle.zq_backlog.specs.Log.{added, added_all}
use Rattle.zq_backlog.proofs.backlog.Backlog.add_all.Goals as goal

pub loop-op-preserved : goal.loop-op-preserved
loop-op-preserved c =
    let i = c.loop-op.op-index in
    let ops = c.args.ops.now in
    let o = c.op-item.result in
    let more = take_more ops i o (omega arith) ∙ ap (λ p. take i ops ++ p ∷ []) (sym c.op-item.is) in
    c.in_ok-add.ensures.added
    ∙ ap (added o) c.loop-op.invariant
    ∙ sym (added_all_push (take i ops) o c.args.self.now)
    ∙ ap (λ xs. added_all xs c.args.self.now) (sym more)

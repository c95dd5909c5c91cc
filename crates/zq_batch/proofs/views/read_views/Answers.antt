use Rattle.std.proofs.Common.{ap, arith, inr, subst, sym, ◌++◌, ◌∙◌, ◌≡◌}
use Rattle.std.proofs.lemmas.Result.{err_from_is_err_and}
use Rattle.zq_batch.proofs.Batches.{read_done, read_fails, read_more, read_start}
use Rattle.zq_batch.specs.Before.{IsNext}
use Rattle.zq_batch.specs.Fields.{op_at}
use Rattle.zq_batch.specs.Spelling.{op_bytes}
use Rattle.zq_batch.proofs.views.read_views.Goals as goal

pub loop-number-init : goal.loop-number-init
loop-number-init c = rw c.in_ok-views.ensures.items (read_start c.args.whole c.args.heap c.args.bytes.now.now)

pub returns-in_err-view-clause-exact : goal.returns-in_err-view-clause-exact
returns-in_err-view-clause-exact c =
    let p = err_from_is_err_and c.from_residual-in_err-view.result c.from_residual-in_err-view.ensures.1 in
    let exact = ap (λ v. op_at c.args.whole c.args.heap v c.loop-number.bytes.now) (sym c.deref.ensures.value) ∙ c.in_err-view.ensures.exact in
    rw p.1 (inr (c.in_err-view.field-0.0, read_fails c.args.whole c.args.count c.loop-number._number c.args.heap c.args.bytes.now.now c.loop-number.bytes.now c.loop-number.views.items c.in_err-view.field-0.0 (omega arith) exact c.loop-number.invariant, p.2))

pub loop-number-preserved : goal.loop-number-preserved
loop-number-preserved c =
    let is = c.deref.ensures.value in
    let exact = ap (λ v. op_at c.args.whole c.args.heap v c.loop-number.bytes.now) (sym is) ∙ c.in_ok-view.ensures.exact in
    let found = subst (λ v. c.loop-number.bytes.now ≡ op_bytes v c.in_ok-view.view ++ c.read_op.new.bytes.now) is c.in_ok-view.ensures.found in
    let next = subst (λ v. IsNext v c.in_ok-view.view) is c.in_ok-view.ensures.next in
    rw c.in_ok-append.ensures.items (read_more c.args.whole c.loop-number._number c.args.heap c.args.bytes.now.now c.loop-number.bytes.now c.read_op.new.bytes.now c.loop-number.views.items c.in_ok-view.view exact found next c.in_ok-view.ensures.of_heap c.loop-number.invariant)

pub returns-clause-exact : goal.returns-clause-exact
returns-clause-exact c =
    read_done c.args.whole c.args.count c.loop-number._number c.args.heap c.args.bytes.now.now c.loop-number.bytes.now c.loop-number.views.items (omega arith) (omega arith) c.loop-number.invariant

use Rattle.std.proofs.Common.{arith, inl, inr}
use Rattle.std.proofs.lemmas.Result.{err_from_is_err_and}
use Rattle.zq_merge.proofs.AdditionLists.{added_fails, added_more, added_none, added_refused}
use Rattle.zq_merge.proofs.Repeated.{is_read, read_done}
use Rattle.zq_merge.proofs.RisingSites.{rising_wider}
use Rattle.zq_merge.specs.Fields.{later_addition_at}
use Rattle.zq_merge.specs.Spelling.{addition_bytes}
use Rattle.zq_model.specs.Sets.{SITES}
use Rattle.zq_merge.proofs.addition.read_additions.Goals as goal

pub returns-in_err-addition-clause-exact : goal.returns-in_err-addition-clause-exact
returns-in_err-addition-clause-exact c =
    let p = err_from_is_err_and c.from_residual.result c.from_residual.ensures.1 in
    rw (p.1, p.2) (elim c.in_err-addition.ensures.exact [
      | inl none ↦ inl none
      | inr e ↦ inr (added_fails c.args.version c.args.whole c.args.vector.now c.args.count c.loop-number._number c.loop-number.low c.args.bytes.now.now c.loop-number.bytes.now c.loop-number.additions.items c.in_err-addition.field-0.0 (omega arith) e c.loop-number.invariant)
    ])

pub loop-number-preserved : goal.loop-number-preserved
loop-number-preserved c =
    rw (c.in_ok-push.ensures, c.value-low.ensures.same, c.dot.ensures.site) (added_more c.args.version c.args.whole c.args.vector.now c.args.count c.loop-number._number c.loop-number.low c.args.bytes.now.now c.loop-number.bytes.now c.read_addition.new.bytes.now c.loop-number.additions.items c.in_ok-addition.addition (omega arith) c.in_ok-addition.ensures.exact c.in_ok-addition.ensures.found c.in_ok-addition.ensures.site.0 c.in_ok-addition.ensures.site.1 c.in_ok-addition.ensures.bounded c.loop-number.invariant)

pub returns-clause-exact : goal.returns-clause-exact
returns-clause-exact c =
    read_done (later_addition_at c.args.version c.args.whole c.args.vector.now) (addition_bytes c.args.version) c.args.count c.loop-number._number c.args.bytes.now.now c.loop-number.bytes.now c.loop-number.additions.items (omega arith) c.loop-number.invariant.read

pub returns-clause-rising : goal.returns-clause-rising
returns-clause-rising c = rising_wider 0 c.loop-number.low SITES c.loop-number.additions.items c.loop-number.invariant.low_within c.loop-number.invariant.rising

pub loop-number-init : goal.loop-number-init
loop-number-init c = rw c.new-additions.ensures.items (added_none c.args.version c.args.whole c.args.vector.now c.args.count c.args.bytes.now.now)

pub returns-in_err-push-clause-memory : goal.returns-in_err-push-clause-memory
returns-in_err-push-clause-memory c =
    let p = err_from_is_err_and c.from_residual-in_err-push.result c.from_residual-in_err-push.ensures.1 in
    rw (p.1, p.2) (λ none. added_refused c.args.version c.args.whole c.args.vector.now c.args.count c.loop-number._number c.loop-number.low c.args.bytes.now.now c.loop-number.bytes.now c.loop-number.additions.items (omega arith) (inr (is_read _ _ c.in_ok-addition.ensures.exact)) c.loop-number.invariant)

pub returns-in_err-addition-clause-memory : goal.returns-in_err-addition-clause-memory
returns-in_err-addition-clause-memory c =
    let p = err_from_is_err_and c.from_residual.result c.from_residual.ensures.1 in
    rw (p.1, p.2) (λ none. added_refused c.args.version c.args.whole c.args.vector.now c.args.count c.loop-number._number c.loop-number.low c.args.bytes.now.now c.loop-number.bytes.now c.loop-number.additions.items (omega arith) (inl (c.in_err-addition.ensures.memory none)) c.loop-number.invariant)

use Rattle.std.proofs.Common.{arith, inl, inr}
use Rattle.std.proofs.lemmas.Result.{err_from_is_err_and}
use Rattle.zq_links.proofs.Repeated.{no_memory_at, no_place_at, read_done, read_fails, read_more, read_start}
use Rattle.zq_links.proofs.ops.read_each.Goals as goal

pub loop-number-init : goal.loop-number-init
loop-number-init c = rw (c.new-ops.ensures.items) (read_start c.args.bytes.now.now)

pub returns-in_err-op-clause-exact : goal.returns-in_err-op-clause-exact
returns-in_err-op-clause-exact c =
    let p = err_from_is_err_and c.from_residual.result c.from_residual.ensures.1 in
    rw (p.1, p.2) (elim c.in_err-op.ensures.exact [
      | inl none ↦ inl (no_memory_at c.args.count c.loop-number.number c.args.bytes.now.now c.loop-number.bytes.now c.loop-number.ops.items c.in_err-op.field-0.0 (omega arith) none c.loop-number.invariant)
      | inr e ↦ inr (read_fails c.args.count c.loop-number.number c.args.bytes.now.now c.loop-number.bytes.now c.loop-number.ops.items c.in_err-op.field-0.0 (omega arith) e c.loop-number.invariant)
    ])

pub returns-in_err-append-clause-exact : goal.returns-in_err-append-clause-exact
returns-in_err-append-clause-exact c =
    let p = err_from_is_err_and c.from_residual-in_err-append.result c.from_residual-in_err-append.ensures.1 in
    rw (p.1, p.2) (inl (no_place_at c.args.count c.loop-number.number c.args.bytes.now.now c.loop-number.bytes.now c.loop-number.ops.items c.in_ok-op.op c.read_one.new.bytes.now (omega arith) c.in_ok-op.ensures.exact c.loop-number.invariant))

pub loop-number-preserved : goal.loop-number-preserved
loop-number-preserved c =
    rw (c.in_ok-append.ensures.items) (read_more c.loop-number.number c.args.bytes.now.now c.loop-number.bytes.now c.read_one.new.bytes.now c.loop-number.ops.items c.in_ok-op.op c.in_ok-op.ensures.exact c.in_ok-op.ensures.found c.loop-number.invariant)

pub returns-clause-exact : goal.returns-clause-exact
returns-clause-exact c =
    read_done c.args.count c.loop-number.number c.args.bytes.now.now c.loop-number.bytes.now c.loop-number.ops.items (omega arith) (omega arith) c.loop-number.invariant

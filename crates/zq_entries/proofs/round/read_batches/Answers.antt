use Rattle.std.proofs.Common.{arith, inl, inr}
use Rattle.std.proofs.lemmas.Result.{err_from_is_err_and}
use Rattle.zq_entries.proofs.Rounds.{read_done, read_fails, read_more, read_start, round_found, round_size}
use Rattle.zq_entries.proofs.round.read_batches.Goals as goal

pub loop-number-init : goal.loop-number-init
loop-number-init c = rw c.in_ok-batches.ensures.items (read_start c.args.whole c.args.bytes.now.now)

pub returns-in_err-batch-clause-exact : goal.returns-in_err-batch-clause-exact
returns-in_err-batch-clause-exact c =
    let p = err_from_is_err_and c.from_residual-in_err-batch.result
    c.from_residual-in_err-batch.ensures.1 in
    rw (p.1, p.2) (elim c.in_err-batch.ensures.exact [
      | inl none ↦ inl none
      | inr e ↦ inr (read_fails c.args.whole c.args.count c.loop-number._number c.args.bytes.now.now c.loop-number.bytes.now c.loop-number.batches.items c.in_err-batch.field-0.0 (omega arith) e c.loop-number.invariant)
    ])

pub loop-number-preserved : goal.loop-number-preserved
loop-number-preserved c =
    rw c.in_ok-append_batch.ensures
    (read_more c.args.whole c.loop-number._number c.args.bytes.now.now c.loop-number.bytes.now
    c.read_behind_length.new.bytes.now c.loop-number.batches.items c.in_ok-batch.batch
    c.in_ok-batch.ensures.exact c.in_ok-batch.ensures.found c.loop-number.invariant)

pub returns-clause-exact : goal.returns-clause-exact
returns-clause-exact c =
    read_done c.args.whole c.args.count c.loop-number._number c.args.bytes.now.now
    c.loop-number.bytes.now c.loop-number.batches.items (omega arith) (omega arith)
    c.loop-number.invariant

pub returns-clause-found : goal.returns-clause-found
returns-clause-found c =
    round_found c.args.count c.loop-number._number c.args.whole c.args.bytes.now.now
    c.loop-number.bytes.now c.loop-number.batches.items (omega arith) (omega arith)
    c.loop-number.invariant

pub returns-clause-count : goal.returns-clause-count
returns-clause-count c =
    round_size c.args.count c.loop-number._number c.args.whole c.args.bytes.now.now
    c.loop-number.bytes.now c.loop-number.batches.items (omega arith) (omega arith)
    c.loop-number.invariant

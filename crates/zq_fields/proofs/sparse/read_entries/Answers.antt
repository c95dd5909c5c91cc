use Rattle.std.proofs.Common.{arith}
use Rattle.std.proofs.lemmas.Result.{err_from_is_err_and}
use Rattle.zq_fields.proofs.Counters.{read_counters}
use Rattle.zq_fields.proofs.Entries.{sparse_fails, sparse_found, sparse_more, sparse_none, sparse_read}
use Rattle.zq_fields.proofs.sparse.read_entries.Goals as goal

pub loop-number-init : goal.loop-number-init
loop-number-init c = rw c.new-vector.ensures (sparse_none c.args.whole c.args.own.now c.args.count c.args.bytes.now.now)

pub returns-in_err-site-clause-exact : goal.returns-in_err-site-clause-exact
returns-in_err-site-clause-exact c =
    let p = err_from_is_err_and c.from_residual.result c.from_residual.ensures.1 in
    rw (p.1, p.2) (sparse_fails c.args.whole c.args.own.now c.args.count c.loop-number._number c.loop-number.low c.args.bytes.now.now c.loop-number.bytes.now c.loop-number.vector c.in_err-site.field-0.0 (omega arith) c.in_err-site.ensures.exact c.loop-number.invariant)

pub loop-number-preserved : goal.loop-number-preserved
loop-number-preserved c =
    rw (c.set.ensures, c.value-low.ensures.same) (sparse_more c.args.whole c.args.own.now c.args.count c.loop-number._number c.loop-number.low c.in_ok-site.site c.in_ok-site.counter c.args.bytes.now.now c.loop-number.bytes.now c.read_entry.new.bytes.now c.loop-number.vector (omega arith) c.in_ok-site.ensures.site.0 c.in_ok-site.ensures.site.1 c.in_ok-site.ensures.counter.0 c.in_ok-site.ensures.counter.1 c.in_ok-site.ensures.exact c.in_ok-site.ensures.found c.loop-number.invariant)

pub returns-clause-exact : goal.returns-clause-exact
returns-clause-exact c =
    sparse_read c.args.whole c.args.own.now c.args.count c.loop-number._number c.loop-number.low c.args.bytes.now.now c.loop-number.bytes.now c.loop-number.vector (omega arith) c.loop-number.invariant

pub returns-clause-found : goal.returns-clause-found
returns-clause-found c =
    sparse_found c.args.whole c.args.own.now c.args.count c.loop-number._number c.loop-number.low c.args.bytes.now.now c.loop-number.bytes.now c.loop-number.vector (omega arith) c.loop-number.invariant

pub returns-clause-counters : goal.returns-clause-counters
returns-clause-counters c = read_counters c.args.own.now c.loop-number.low c.loop-number.vector c.loop-number.invariant.read

pub returns-clause-within : goal.returns-clause-within
returns-clause-within c = c.loop-number.invariant.read.within

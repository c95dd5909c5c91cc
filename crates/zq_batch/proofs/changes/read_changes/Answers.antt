use Rattle.std.proofs.Common.{arith}
use Rattle.std.proofs.lemmas.Result.{err_from_is_err_and}
use Rattle.zq_dots.proofs.Counters.{last_is, sites_is}
use Rattle.zq_batch.proofs.Risen.{changed_count, changed_fails, changed_found, changed_more, changed_none, changed_read, most_last}
use Rattle.zq_batch.proofs.changes.read_changes.Goals as goal

pub loop-number-init : goal.loop-number-init
loop-number-init c = changed_none c.args.whole c.args.own c.args.base.now.top c.args.count c.args.base.now.known c.args.bytes.now.now c.requires.known c.requires.own

pub returns-in_err-site-clause-exact : goal.returns-in_err-site-clause-exact
returns-in_err-site-clause-exact c =
    let p = err_from_is_err_and c.from_residual.result c.from_residual.ensures.1 in
    rw (p.1, p.2) (changed_fails c.args.whole c.args.own c.args.base.now.top c.args.count c.loop-number._number c.loop-number.low c.args.base.now.known c.args.bytes.now.now c.loop-number.bytes.now c.loop-number.seen c.in_err-site.field-0.0 (omega arith) c.in_err-site.ensures.exact c.loop-number.invariant)

pub overflow_add-get : goal.overflow_add-get
overflow_add-get c =
    let most = most_last c.args.own c.args.base.now.top c.in_ok-site.site c.requires.top in
    let some = c.in_ok-site.ensures.rise.0 in
    let few = c.in_ok-site.ensures.rise.1 in
    let at = c.get.ensures.counter in
    record { fits = omega (arith, last_is) }

pub overflow_add-low : goal.overflow_add-low
overflow_add-low c =
    let below = c.in_ok-site.ensures.site.1 in
    let same = c.value-low.ensures.same in
    record { fits = omega (arith, sites_is) }

pub loop-number-preserved : goal.loop-number-preserved
loop-number-preserved c =
    rw (c.set.ensures, c.get.ensures.counter, c.value-low.ensures.same) (changed_more c.args.whole c.args.own c.args.base.now.top c.args.count c.loop-number._number c.loop-number.low c.in_ok-site.site c.in_ok-site.rise c.args.base.now.known c.args.bytes.now.now c.loop-number.bytes.now c.read_change.new.bytes.now c.loop-number.seen (omega arith) c.requires.top c.in_ok-site.ensures.site.0 c.in_ok-site.ensures.site.1 c.in_ok-site.ensures.rise.0 c.in_ok-site.ensures.rise.1 c.in_ok-site.ensures.exact c.in_ok-site.ensures.found c.loop-number.invariant)

pub returns-clause-exact : goal.returns-clause-exact
returns-clause-exact c =
    changed_read c.args.whole c.args.own c.args.base.now.top c.args.count c.loop-number._number c.loop-number.low c.args.base.now.known c.args.bytes.now.now c.loop-number.bytes.now c.loop-number.seen (omega arith) c.loop-number.invariant

pub returns-clause-found : goal.returns-clause-found
returns-clause-found c =
    changed_found c.args.whole c.args.own c.args.base.now.top c.args.count c.loop-number._number c.loop-number.low c.args.base.now.known c.args.bytes.now.now c.loop-number.bytes.now c.loop-number.seen c.loop-number.invariant

pub returns-clause-count : goal.returns-clause-count
returns-clause-count c =
    changed_count c.args.whole c.args.own c.args.base.now.top c.args.count c.loop-number._number c.loop-number.low c.args.base.now.known c.args.bytes.now.now c.loop-number.bytes.now c.loop-number.seen (omega arith) c.loop-number.invariant

pub returns-clause-counters : goal.returns-clause-counters
returns-clause-counters c = c.loop-number.invariant.counters

use Rattle.std.proofs.Common.{ap, arith, subst, sym, ◌∙◌, ◌≡◌, ◌≤◌}
use Rattle.std.proofs.lemmas.Result.{err_from_is_err_and}
use Rattle.zq_fields.proofs.Counters.{dense_fails, dense_found, dense_more, dense_none, dense_read, dense_sites_is, read_counters}
use Rattle.zq_fields.specs.Reading.{number_in}
use Rattle.zq_fields.specs.Vectors.{limit_of}
use Rattle.zq_fields.proofs.dense.read_dense.Goals as goal

pub loop-number-init : goal.loop-number-init
loop-number-init c = rw c.new-vector.ensures (dense_none c.args.whole c.args.own c.args.bytes.now.now)

pub returns-in_err-counter-clause-exact : goal.returns-in_err-counter-clause-exact
returns-in_err-counter-clause-exact c =
    let p = err_from_is_err_and c.from_residual.result c.from_residual.ensures.1 in
    let limited : c.limit.result ≡ limit_of c.args.own c.loop-number.number = c.limit.ensures ∙ ap (limit_of c.args.own) c.site_of-site.ensures in
    rw (p.1, p.2) (dense_fails c.args.whole c.args.own c.loop-number.number c.args.bytes.now.now c.loop-number.bytes.now c.loop-number.vector c.in_err-counter.field-0.0 (omega (arith, dense_sites_is)) (ap (λ n. number_in c.args.whole 0 n c.loop-number.bytes.now) (sym limited) ∙ c.in_err-counter.ensures.exact) c.loop-number.invariant)

pub loop-number-preserved : goal.loop-number-preserved
loop-number-preserved c =
    let limited : c.limit.result ≡ limit_of c.args.own c.loop-number.number = c.limit.ensures ∙ ap (limit_of c.args.own) c.site_of-site.ensures in
    let small : c.in_ok-counter.counter ≤ limit_of c.args.own c.loop-number.number = subst (λ n. c.in_ok-counter.counter ≤ n) limited c.in_ok-counter.ensures.within in
    rw (c.set.ensures, c.site_of-site.ensures) (dense_more c.args.whole c.args.own c.loop-number.number c.in_ok-counter.counter c.args.bytes.now.now c.loop-number.bytes.now c.read_number_in.new.bytes.now c.loop-number.vector (omega (arith, dense_sites_is)) small (ap (λ n. number_in c.args.whole 0 n c.loop-number.bytes.now) (sym limited) ∙ c.in_ok-counter.ensures.exact) c.in_ok-counter.ensures.found c.loop-number.invariant)

pub returns-clause-exact : goal.returns-clause-exact
returns-clause-exact c =
    dense_read c.args.whole c.args.own c.loop-number.number c.args.bytes.now.now c.loop-number.bytes.now c.loop-number.vector (omega (arith, dense_sites_is)) c.loop-number.invariant

pub returns-clause-found : goal.returns-clause-found
returns-clause-found c =
    dense_found c.args.whole c.args.own c.loop-number.number c.args.bytes.now.now c.loop-number.bytes.now c.loop-number.vector (omega (arith, dense_sites_is)) c.loop-number.invariant

pub returns-clause-dense : goal.returns-clause-dense
returns-clause-dense c t past = c.loop-number.invariant.read.zero t (omega (arith, dense_sites_is))

pub returns-clause-counters : goal.returns-clause-counters
returns-clause-counters c = read_counters c.args.own c.loop-number.number c.loop-number.vector c.loop-number.invariant.read

use Rattle.std.proofs.Common.{arith, inr, of_z, to_z, ◌≡◌}
use Rattle.std.proofs.lemmas.Int.{to_z-of_z}
use Rattle.std.specs.Int.{w128}
use Rattle.zq_entry.proofs.SumLemmas.{sum-fits}
use Rattle.std.proofs.lemmas.Result.{err_from_is_err_and}
use Rattle.zq_merge.proofs.Repeated.{read_done}
use Rattle.zq_merge.proofs.SumLists.{listed_fails, listed_more, listed_none, listed_refused, sums_are}
use Rattle.zq_merge.specs.Fields.{later_sum_at}
use Rattle.zq_merge.specs.Spelling.{sum_bytes}
use Rattle.zq_merge.proofs.sums.read_some_sums.Goals as goal

pub returns-in_err-site-clause-exact : goal.returns-in_err-site-clause-exact
returns-in_err-site-clause-exact c =
    let p = err_from_is_err_and c.from_residual.result c.from_residual.ensures.1 in
    rw (p.1, p.2) (inr (listed_fails c.args.whole c.args.vector.now c.args.count c.loop-number._number c.loop-number.low c.args.bytes.now.now c.loop-number.bytes.now c.loop-number.sums.items c.in_err-site.field-0.0 (omega arith) c.in_err-site.ensures.exact c.loop-number.invariant))

pub loop-number-preserved : goal.loop-number-preserved
loop-number-preserved c =
    let back : to_z w128 (of_z w128 c.in_ok-site.sum) ≡ c.in_ok-site.sum = to_z-of_z w128 c.in_ok-site.sum (sum-fits c.in_ok-site.sum c.in_ok-site.ensures.sum.1) in
    rw (c.in_ok-push.ensures, back, c.value-low.ensures.same) (listed_more c.args.whole c.args.vector.now c.args.count c.loop-number._number c.loop-number.low c.in_ok-site.site c.in_ok-site.sum c.args.bytes.now.now c.loop-number.bytes.now c.read_site_sum.new.bytes.now c.loop-number.sums.items (omega arith) c.in_ok-site.ensures.exact c.in_ok-site.ensures.found c.in_ok-site.ensures.site.0 c.in_ok-site.ensures.site.1 c.in_ok-site.ensures.sum c.in_ok-site.ensures.within c.loop-number.invariant)

pub returns-clause-exact : goal.returns-clause-exact
returns-clause-exact c =
    read_done (later_sum_at c.args.whole c.args.vector.now) sum_bytes c.args.count c.loop-number._number c.args.bytes.now.now c.loop-number.bytes.now c.loop-number.sums.items (omega arith) c.loop-number.invariant.read

pub returns-clause-sums : goal.returns-clause-sums
returns-clause-sums c = sums_are c.args.vector.now c.loop-number.low c.loop-number.sums.items c.loop-number.invariant.low_within c.loop-number.invariant.sums

pub loop-number-init : goal.loop-number-init
loop-number-init c = rw c.new-sums.ensures.items (listed_none c.args.whole c.args.vector.now c.args.count c.args.bytes.now.now)

pub returns-in_err-push-clause-memory : goal.returns-in_err-push-clause-memory
returns-in_err-push-clause-memory c =
    let p = err_from_is_err_and c.from_residual-in_err-push.result c.from_residual-in_err-push.ensures.1 in
    rw (p.1, p.2) (λ none. listed_refused c.args.whole c.args.vector.now c.args.count c.loop-number._number c.loop-number.low (c.in_ok-site.site, c.in_ok-site.sum) c.args.bytes.now.now c.loop-number.bytes.now c.read_site_sum.new.bytes.now c.loop-number.sums.items (omega arith) c.in_ok-site.ensures.exact c.loop-number.invariant)

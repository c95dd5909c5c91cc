use Rattle.std.proofs.Common.{ap, arith, inr, of_z, subst, sym, to_z, ◌*◌, ◌∙◌, ◌≡◌}
use Rattle.std.proofs.lemmas.Result.{err_from_is_err_and}
use Rattle.std.proofs.lemmas.Int.{to_z-of_z}
use Rattle.std.specs.Int.{w128}
use Rattle.std.specs.Prelude.{slice_index}
use Rattle.zq_entry.proofs.SumLemmas.{sum-fits}
use Rattle.zq_dots.proofs.Counters.{sites_is}
use Rattle.zq_entry.specs.Sums.{MOST_SUM}
use Rattle.zq_merge.proofs.SumLists.{first_fails, first_found, first_more, first_none, first_read, first_refused, sums_are}
use Rattle.zq_merge.specs.Reading.{sum_in}
use Rattle.zq_model.proofs.Bounds.{within_more}
use Rattle.zq_model.specs.Operation.{IsWithin, MOST}
use Rattle.zq_fields.proofs.Counters.{dense_sites_is}
use Rattle.zq_merge.proofs.sums.read_each_sum.Goals as goal

pub site_of-site-requires : goal.site_of-site-requires
site_of-site-requires c = omega (arith, sites_is)

pub returns-in_err-sum-clause-exact : goal.returns-in_err-sum-clause-exact
returns-in_err-sum-clause-exact c =
    let p = err_from_is_err_and c.from_residual.result c.from_residual.ensures.1 in
    let limited : c.most.result ≡ MOST * slice_index c.args.vector.now c.loop-number.number = c.most.ensures.exact ∙ ap (λ s. MOST * slice_index c.args.vector.now s) c.site_of-site.ensures in
    rw (p.1, p.2) (inr (first_fails c.args.vector.now c.loop-number.number c.args.bytes.now.now c.loop-number.bytes.now c.loop-number.sums.items c.in_err-sum.field-0.0 (omega (arith, dense_sites_is)) (ap (λ n. sum_in n c.loop-number.bytes.now) (sym limited) ∙ c.in_err-sum.ensures.exact) c.loop-number.invariant))

pub loop-number-preserved : goal.loop-number-preserved
loop-number-preserved c =
    let limited : c.most.result ≡ MOST * slice_index c.args.vector.now c.loop-number.number = c.most.ensures.exact ∙ ap (λ s. MOST * slice_index c.args.vector.now s) c.site_of-site.ensures in
    let within : IsWithin (MOST * slice_index c.args.vector.now c.loop-number.number) c.in_ok-sum.sum = subst (λ n. IsWithin n c.in_ok-sum.sum) limited c.in_ok-sum.ensures.within in
    let most = within_more c.most.result MOST_SUM c.in_ok-sum.sum c.most.ensures.bounded c.in_ok-sum.ensures.within in
    let back : to_z w128 (of_z w128 c.in_ok-sum.sum) ≡ c.in_ok-sum.sum = to_z-of_z w128 c.in_ok-sum.sum (sum-fits c.in_ok-sum.sum most) in
    rw (c.in_ok-push_sum.ensures, back, c.site_of-site.ensures) (first_more c.args.vector.now c.loop-number.number c.in_ok-sum.sum c.args.bytes.now.now c.loop-number.bytes.now c.read_sum.new.bytes.now c.loop-number.sums.items (omega (arith, dense_sites_is)) (ap (λ n. sum_in n c.loop-number.bytes.now) (sym limited) ∙ c.in_ok-sum.ensures.exact) c.in_ok-sum.ensures.found (λ some. (some, most)) within c.loop-number.invariant)

pub returns-clause-exact : goal.returns-clause-exact
returns-clause-exact c =
    first_read c.args.vector.now c.loop-number.number c.args.bytes.now.now c.loop-number.bytes.now c.loop-number.sums.items (omega (arith, dense_sites_is)) c.loop-number.invariant

pub returns-clause-found : goal.returns-clause-found
returns-clause-found c =
    first_found c.args.vector.now c.loop-number.number c.args.bytes.now.now c.loop-number.bytes.now c.loop-number.sums.items (omega (arith, dense_sites_is)) c.loop-number.invariant

pub returns-clause-sums : goal.returns-clause-sums
returns-clause-sums c = sums_are c.args.vector.now c.loop-number.number c.loop-number.sums.items (omega (arith, sites_is)) c.loop-number.invariant.sums

pub loop-number-init : goal.loop-number-init
loop-number-init c = rw c.new-sums.ensures.items (first_none c.args.vector.now c.args.bytes.now.now)

pub returns-in_err-push_sum-clause-memory : goal.returns-in_err-push_sum-clause-memory
returns-in_err-push_sum-clause-memory c =
    let p = err_from_is_err_and c.from_residual-in_err-push_sum.result c.from_residual-in_err-push_sum.ensures.1 in
    let limited : c.most.result ≡ MOST * slice_index c.args.vector.now c.loop-number.number = c.most.ensures.exact ∙ ap (λ s. MOST * slice_index c.args.vector.now s) c.site_of-site.ensures in
    rw (p.1, p.2) (λ none. first_refused c.args.vector.now c.loop-number.number c.in_ok-sum.sum c.args.bytes.now.now c.loop-number.bytes.now c.read_sum.new.bytes.now c.loop-number.sums.items (omega (arith, dense_sites_is)) (ap (λ n. sum_in n c.loop-number.bytes.now) (sym limited) ∙ c.in_ok-sum.ensures.exact) c.loop-number.invariant)

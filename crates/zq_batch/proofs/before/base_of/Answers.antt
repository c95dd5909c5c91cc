use Rattle.std.proofs.Common.{ap, arith, Some, sym, ◌-◌, ◌==◌, ◌∙◌, ◌≡◌}
use Rattle.std.proofs.lemmas.Bool.Decides.{nat_tests}
use Rattle.zq_batch.proofs.Latest.{found_back, no_counter, passed_back}
use Rattle.zq_batch.specs.Before.{base_from, is_of, last_of, top_from}
use Rattle.zq_batch.proofs.before.base_of.Goals as goal

found : (c : goal.After-base_behind) → last_of c.args.site c.args.before.now ≡ Some c.index-before-number.result
found c =
    found_back (is_of c.args.site) c.args.before.now (c.loop-number.number - 1) c.loop-number.number c.index-before-number.result (omega arith) (omega arith) c.index-before-number.is c.loop-number.invariant (ap (λ s. s == c.args.site) (sym c.site.ensures) ∙ sym c.if-eq.ensures)

pub returns-then-eq-clause-known : goal.returns-then-eq-clause-known
returns-then-eq-clause-known c =
    let same : c.index-before-number.result.operation.site ≡ c.args.site = grind (arith, nat_tests) in
    c.base_behind.ensures.known ∙ (ap (λ s. base_from s (Some c.index-before-number.result)) same ∙ sym (ap (base_from c.args.site) (found c)))

pub returns-then-eq-clause-top : goal.returns-then-eq-clause-top
returns-then-eq-clause-top c = c.base_behind.ensures.top ∙ sym (ap top_from (found c))

pub loop-number-preserved : goal.loop-number-preserved
loop-number-preserved c =
    passed_back (is_of c.args.site) c.args.before.now (c.loop-number.number - 1) c.loop-number.number c.index-before-number.result (omega arith) (omega arith) c.index-before-number.is c.loop-number.invariant (ap (λ s. s == c.args.site) (sym c.site.ensures) ∙ sym c.if-eq.ensures)

pub returns-clause-own : goal.returns-clause-own
returns-clause-own c = rw (c.new.ensures, no_counter c.args.site) (omega arith)

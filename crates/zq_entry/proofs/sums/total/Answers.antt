use Rattle.std.proofs.Common.{arith, ap, sym, take, take_all, ◌*◌, ◌+◌, ◌∙◌, ◌≡◌}
use Rattle.std.proofs.lemmas.Int.{to_z-of_z}
use Rattle.std.specs.Prelude.{ℤ, ◌+ℤ◌}
use Rattle.std.specs.Int.{w128}
use mir.Val.{SFits, of_z, to_z}
use Rattle.zq_model.specs.Operation.{IsWithin}
use Rattle.zq_model.specs.Sets.{SITES}
use Rattle.zq_entry.specs.Sums.{MOST_SUM}
use Rattle.zq_entry.proofs.SumLemmas.{more-within, within-more, sum-within, sums-fit, sums-length, total-dense, total-take, total_of}
use Rattle.zq_entry.proofs.sums.total.Goals as goal

item-within : (c : goal.After-total-1) → IsWithin MOST_SUM c.loop-sum-item.result.1
item-within c = rw c.loop-sum-item.is (sum-within c.args.sums.now c.loop-sum.sum-index c.loop-sum-item.result c.requires.each (omega arith))

-- the total so far
abbrev so_far : (c : goal.After-total-1) → ℤ
so_far c = to_z w128 c.loop-sum.total-bits

more : (c : goal.After-total-1) → IsWithin ((c.loop-sum.sum-index + 1) * MOST_SUM) (so_far c +ℤ c.loop-sum-item.result.1)
more c = more-within c.loop-sum.sum-index (so_far c) c.loop-sum-item.result.1 c.loop-sum.invariant.within (item-within c)

item-fits : (c : goal.After-total-1) → SFits w128 c.loop-sum-item.result.1
item-fits c = sums-fit 1 c.loop-sum-item.result.1 (omega (arith, sums-length c.args.sums.now c.requires)) (item-within c)

total-fits : (c : goal.After-total-1) → SFits w128 (so_far c +ℤ c.loop-sum-item.result.1)
total-fits c = sums-fit (c.loop-sum.sum-index + 1) (so_far c +ℤ c.loop-sum-item.result.1) (omega (arith, sums-length c.args.sums.now c.requires)) (more c)

-- the new total
new_total : (c : goal.After-total-1) → to_z w128 (of_z w128 (so_far c +ℤ to_z w128 (of_z w128 c.loop-sum-item.result.1))) ≡ so_far c +ℤ c.loop-sum-item.result.1
new_total c = ap (λ x. to_z w128 (of_z w128 (so_far c +ℤ x))) (to_z-of_z w128 c.loop-sum-item.result.1 (item-fits c)) ∙ to_z-of_z w128 (so_far c +ℤ c.loop-sum-item.result.1) (total-fits c)

pub overflow_add-total : goal.overflow_add-total
overflow_add-total c = rw (to_z-of_z w128 c.loop-sum-item.result.1 (item-fits c)) (total-fits c)

new_value : (c : goal.After-total-1) → so_far c +ℤ c.loop-sum-item.result.1 ≡ total_of (take (c.loop-sum.sum-index + 1) c.args.sums.now)
new_value c =
    ap (λ x. x +ℤ c.loop-sum-item.result.1) c.loop-sum.invariant.value ∙ (ap (λ p. total_of (take c.loop-sum.sum-index c.args.sums.now) +ℤ p.1) c.loop-sum-item.is
    ∙ sym (total-take c.args.sums.now c.loop-sum.sum-index c.loop-sum-item.result c.loop-sum-test.true))

pub loop-sum-preserved : goal.loop-sum-preserved
loop-sum-preserved c = record {
  value = new_total c ∙ new_value c;
  within = rw (new_total c) (more c);
}

pub returns-clause-value : goal.returns-clause-value
returns-clause-value c =
    c.loop-sum.invariant.value ∙ (ap total_of (take_all c.loop-sum.sum-index c.args.sums.now c.loop-sum-test.false) ∙ sym (total-dense c.args.sums.now c.requires))

pub returns-clause-within : goal.returns-clause-within
returns-clause-within c =
    within-more c.loop-sum.sum-index SITES MOST_SUM (to_z w128 c.loop-sum.total-bits) (omega (arith, sums-length c.args.sums.now c.requires)) c.loop-sum.invariant.within

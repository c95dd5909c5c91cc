use Rattle.std.proofs.Common.{ap, rules, ◌*◌, ◌+◌, ◌∙◌, ◌≡◌}
use Rattle.std.proofs.lemmas.Int.{to_z-of_z}
use Rattle.std.specs.Int.{w128, w64}
use Rattle.std.specs.Prelude.{◌+ℤ◌}
use mir.Val.{SFits, of_z, to_z}
use Rattle.zq_model.proofs.Bounds.{within_add}
use Rattle.zq_model.specs.Operation.{IsWithin, MOST}
use Rattle.zq_model.specs.Score.{total}
use Rattle.zq_model.specs.Sets.{SITES}
use Rattle.zq_entry.specs.Sums.{MOST_SUM, dense_sums}
use Rattle.zq_entry.proofs.SumLemmas.{value-fits}
use Rattle.zq_entry.proofs.addition_ref.AdditionRef.value.Goals as goal

-- the score, widened
score : (c : goal.After-total) → to_z w128 (of_z w128 c.from.result) ≡ c.value.result
score c =
    let narrow : SFits w64 c.value.result = search rules in
    let wide : SFits w128 c.from.result = search rules in
    to_z-of_z w128 c.from.result wide ∙ (c.from.ensures ∙ to_z-of_z w64 c.value.result narrow)

sums : (c : goal.After-total) → to_z w128 (of_z w128 c.total.result) ≡ c.total.result
sums c =
    let wide : SFits w128 c.total.result = search rules in
    to_z-of_z w128 c.total.result wide

both : (c : goal.After-total) → to_z w128 (of_z w128 c.from.result) +ℤ to_z w128 (of_z w128 c.total.result) ≡ c.value.result +ℤ c.total.result
both c = ap (λ x. x +ℤ to_z w128 (of_z w128 c.total.result)) (score c) ∙ ap (λ x. c.value.result +ℤ x) (sums c)

within : (c : goal.After-total) → IsWithin (MOST + SITES * MOST_SUM) (c.value.result +ℤ c.total.result)
within c = within_add MOST (SITES * MOST_SUM) c.value.result c.total.result c.value.ensures.within c.total.ensures.within

-- the result
value : (c : goal.After-total) → to_z w128 (of_z w128 (to_z w128 (of_z w128 c.from.result) +ℤ to_z w128 (of_z w128 c.total.result))) ≡ c.value.result +ℤ c.total.result
value c = ap (λ x. to_z w128 (of_z w128 x)) (both c) ∙ to_z-of_z w128 (c.value.result +ℤ c.total.result) (value-fits (c.value.result +ℤ c.total.result) (within c))

pub overflow_add-result : goal.overflow_add-result
overflow_add-result c = rw (both c) (value-fits (c.value.result +ℤ c.total.result) (within c))

pub returns-clause-value : goal.returns-clause-value
returns-clause-value c =
    value c ∙ (ap (λ x. x +ℤ c.total.result) c.value.ensures.same ∙ ap (λ x. c.args.self.now.score +ℤ x) (c.total.ensures.value ∙ ap (λ sums. total (dense_sums sums)) c.as_slice.ensures))

pub returns-clause-within : goal.returns-clause-within
returns-clause-within c = rw (value c) (within c)

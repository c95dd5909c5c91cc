use Rattle.std.proofs.Common.{ap, rules, ◌∙◌, ◌≡◌}
use Rattle.std.proofs.lemmas.Int.{to_z-of_z}
use Rattle.std.specs.Int.{w128, w64}
use Rattle.std.specs.Prelude.{pos, unwrap_or, ◌+ℤ◌}
use mir.Val.{SFits, of_z, to_z}
use Rattle.zq_entry.proofs.SumLemmas.{sum-fits}
use Rattle.zq_entry.proofs.SumWalks.{sum-bits}
use Rattle.zq_entry.proofs.sums.added.Goals as goal

-- the sum of what was widened
bits : (c : goal.After-from) → to_z w128 (of_z w128 c.unwrap_or.result) +ℤ to_z w128 (of_z w128 c.from.result) ≡ unwrap_or c.args.sum (pos 0) +ℤ c.args.increment
bits c =
    let first : SFits w128 c.unwrap_or.result = search rules in
    let second : SFits w64 c.value.result = search rules in
    let third : SFits w128 c.from.result = search rules in
    sum-bits c.unwrap_or.result c.from.result c.value.result c.args.increment first second third c.from.ensures c.value.ensures.same ∙ ap (λ x. x +ℤ c.args.increment) c.unwrap_or.ensures

pub overflow_add-result : goal.overflow_add-result
overflow_add-result c = rw (bits c) (sum-fits (unwrap_or c.args.sum (pos 0) +ℤ c.args.increment) c.requires)

pub returns : goal.returns
returns c = ap (λ x. to_z w128 (of_z w128 x)) (bits c) ∙ to_z-of_z w128 (unwrap_or c.args.sum (pos 0) +ℤ c.args.increment) (sum-fits (unwrap_or c.args.sum (pos 0) +ℤ c.args.increment) c.requires)

use Rattle.std.proofs.Common.{arith, subst, ◌∙◌}
use Rattle.std.proofs.lemmas.Bool.Decides.{nat_tests}
use Rattle.std.specs.Prelude.{length, max, ℕ, ◌≤◌}
use Rattle.zq_model.proofs.CutTails.{cut_of-standard, free_cut, light_left, within_tail}
use Rattle.zq_model.specs.Reach.{cut_at_most, cut_by_bytes, cut_by_length, cut_of}
use Rattle.zq_model.proofs.reach.cutting.Goals as goal

pub returns-clause-within : goal.returns-clause-within
returns-clause-within c = within_tail

pub returns-clause-free : goal.returns-clause-free
returns-clause-free c = free_cut

pub returns-clause-handed : goal.returns-clause-handed
returns-clause-handed c = λ b n handed.
    let most : ℕ = max (cut_by_length b.limits (length b.tail)) (cut_by_bytes b.limits.bytes b.tail) in
    let least : cut_of b ≤ cut_at_most b.handed b.count (length b.tail) = omega arith in
    subst (λ h. cut_of b ≤ cut_at_most h b.count (length b.tail)) handed least

pub returns-clause-light : goal.returns-clause-light
returns-clause-light c = light_left

pub returns-clause-short : goal.returns-clause-short
returns-clause-short c = λ b handed limits few. cut_of-standard b handed limits ∙ grind (arith, nat_tests)

pub returns-clause-long : goal.returns-clause-long
returns-clause-long c = λ b handed limits many. cut_of-standard b handed limits ∙ grind (arith, nat_tests)

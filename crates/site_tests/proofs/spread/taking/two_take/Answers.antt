use Rattle.std.proofs.Common.{subst}
use Rattle.std.proofs.lemmas.List.Elements.{All-head, All-tail}
use Rattle.std.specs.Prelude.{All, List, ◌∷◌}
use Rattle.site_tests.proofs.spread.taking.two_take.Goals as goal
use Rattle.zq_spread.specs.Passes.{IsPassOf}
use Rattle.zq_spread.specs.declared.pass.Pass.{Pass}

pub both_take-requires-clause-second : goal.both_take-requires-clause-second
both_take-requires-clause-second g c =
    let is : Pass → Type 0 = IsPassOf c.args.site.now in
    let first : Pass = c.in-Some.first.now in
    let others : List Pass = c.in-Some.others.now in
    let all : All is (first ∷ others) = subst (All is) c.in-Some.ensures.cases.0 c.requires.passes in
    let second : Pass = c.in-Some-split_first_mut.second.now in
    let rest : List Pass = c.in-Some-split_first_mut.field-0-1.now in
    All-head is second rest (subst (All is) c.in-Some-split_first_mut.ensures.cases.0 (All-tail is first others all))

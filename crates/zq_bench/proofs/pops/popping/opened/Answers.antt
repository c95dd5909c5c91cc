use Rattle.zq_bench.proofs.pops.popping.opened.Goals as goal
use Rattle.std.proofs.Common.{[], subst, ◌++◌, ◌∷◌}
use Rattle.std.proofs.lemmas.List.Elements.{All-head}
use Rattle.std.specs.Prelude.{All, List}
use Rattle.zq_node.proofs.Opened.{all_after, all_before}
use Rattle.zq_spread.specs.Passes.{IsPassOf}
use Rattle.zq_spread.specs.declared.pass.Pass.{Pass}

pub returns-clause-passes : goal.returns-clause-passes
returns-clause-passes c =
    let is : Pass → Type 0 = IsPassOf c.in-Ok.site in
    let filler : Pass = c.in_ok-filler.filler in
    let all : All is (c.pop.new.self.items ++ filler ∷ []) = subst (All is) c.in_ok-filler.ensures.items c.in-Ok.ensures.made.2.all.each in
    all_before is c.pop.new.self.items (filler ∷ []) all

pub returns-clause-filler : goal.returns-clause-filler
returns-clause-filler c =
    let is : Pass → Type 0 = IsPassOf c.in-Ok.site in
    let filler : Pass = c.in_ok-filler.filler in
    let all : All is (c.pop.new.self.items ++ filler ∷ []) = subst (All is) c.in_ok-filler.ensures.items c.in-Ok.ensures.made.2.all.each in
    All-head is filler [] (all_after is c.pop.new.self.items (filler ∷ []) all)

use Rattle.zq_bench.proofs.node.sites.opened.Goals as goal
use Rattle.std.proofs.Common.{[], arith, subst, ◌++◌, ◌∷◌}
use Rattle.std.proofs.lemmas.List.Elements.{All-head}
use Rattle.std.specs.Prelude.{All, List}
use Rattle.zq_node.proofs.Opened.{all_after, all_before, high_rule}
use Rattle.zq_spread.specs.Passes.{IsPassOf}
use Rattle.zq_spread.specs.declared.pass.Pass.{Pass}

pub returns-clause-rule : goal.returns-clause-rule
returns-clause-rule c =
    let made = c.in-Ok.ensures.made in
    high_rule 4 made.0 c.args.number 2 c.in-Ok.site c.in-Ok.passes.items (omega arith) made.1 made.2

pub returns-clause-node : goal.returns-clause-node
returns-clause-node c =
    let is : Pass → Type 0 = IsPassOf c.in-Ok.site in
    let first : Pass = c.in_ok-node.node in
    let last : Pass = c.in_ok-client.client in
    let firsts : List Pass = c.pop.new.self.items in
    let all : All is (firsts ++ last ∷ []) = subst (All is) c.in_ok-client.ensures.items c.in-Ok.ensures.made.2.all.each in
    let before : All is firsts = all_before is firsts (last ∷ []) all in
    All-head is first [] (all_after is c.pop-2.new.self.items (first ∷ []) (subst (All is) c.in_ok-node.ensures.items before))

pub returns-clause-client : goal.returns-clause-client
returns-clause-client c =
    let is : Pass → Type 0 = IsPassOf c.in-Ok.site in
    let last : Pass = c.in_ok-client.client in
    All-head is last [] (all_after is c.pop.new.self.items (last ∷ []) (subst (All is) c.in_ok-client.ensures.items c.in-Ok.ensures.made.2.all.each))

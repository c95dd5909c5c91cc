use Rattle.std.proofs.Common.{[], ap, arith, subst, ◌++◌, ◌∙◌, ◌∷◌}
use Rattle.std.proofs.lemmas.List.Elements.{All-head}
use Rattle.std.specs.Prelude.{All, IfOk, List, Vec, option_to_list, ℕ}
use Rattle.std.specs.declared.alloc.Global.{Global}
use Rattle.zq_model.specs.Books.{Book}
use Rattle.zq_model.specs.Rule.{Greatest}
use Rattle.zq_node.proofs.Opened.{all_after, high_rule}
use Rattle.zq_node.proofs.tests.nodes.opened.Goals as goal
use Rattle.zq_spread.specs.Makers.{AreEmptyBooks, IsMade}
use Rattle.zq_spread.specs.Passes.{IsPassOf}
use Rattle.zq_spread.specs.declared.pass.Pass.{Pass}
use Rattle.zq_spread.specs.declared.site.Site.{Site}

-- what is said of a new site with one pass
abbrev IsNew : ℕ → ℕ → Site × Vec Pass Global → Type 0
IsNew number heaps made = (books : List Book) × AreEmptyBooks heaps Greatest books × IsMade number books 1 made.0 made.1.items

pub returns-clause-rule : goal.returns-clause-rule
returns-clause-rule g c =
    let made = subst (λ r. IfOk r (IsNew c.args.number c.args.heaps)) c.expect-site.ensures c.new.ensures.made in
    high_rule c.args.heaps made.0 c.args.number 1 c.expect-site.result.0 c.expect-site.result.1.items (omega (arith, made.1.number, made.2.heaps, c.expect-site.type_inv)) made.1 made.2

pub returns-clause-pass : goal.returns-clause-pass
returns-clause-pass g c =
    let made = subst (λ r. IfOk r (IsNew c.args.number c.args.heaps)) c.expect-site.ensures c.new.ensures.made in
    let is : Pass → Type 0 = IsPassOf c.expect-site.result.0 in
    let last : Pass = c.expect-pass.result in
    let items = c.pop.ensures.items ∙ ap (λ o. c.pop.new.self.items ++ option_to_list o) c.expect-pass.ensures in
    All-head is last [] (all_after is c.pop.new.self.items (last ∷ []) (subst (All is) items made.2.all.each))

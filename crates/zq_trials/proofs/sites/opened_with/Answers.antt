use Rattle.std.proofs.Common.{List, [], ap, arith, refl, ℕ, ◌∙◌, ◌∷◌, ◌≡◌, ◌≤◌}
use Rattle.zq_dots.specs.declared.rule.Rule.TheVariants.{High}
use Rattle.zq_model.specs.Books.{Book}
use Rattle.zq_model.specs.Rule.{Greatest}
use Rattle.zq_shard.proofs.SameRules.{same_rule}
use Rattle.zq_spread.specs.Makers.{AreEmptyBooks, IsMade}
use Rattle.zq_spread.specs.declared.pass.Pass.{Pass}
use Rattle.zq_spread.specs.declared.site.Site.{Site}
use Rattle.zq_trials.proofs.sites.opened_with.Goals as goal

-- a site over empty books has their rule
high_rule : (heaps : ℕ) (books : List Book) (number n : ℕ) (site : Site) (passes : List Pass) → 1 ≤ heaps → AreEmptyBooks heaps Greatest books → IsMade number books n site passes → site.rule ≡ High
high_rule heaps [] number n site passes some empty made = absurd (omega (arith, some, empty.number))
high_rule heaps (b ∷ books) number n site passes some empty made = same_rule site.rule High (made.rule 0 b refl ∙ ap (λ x. x.rule) (empty.empty 0 b refl))

pub returns-in-Ok-clause-rule : goal.returns-in-Ok-clause-rule
returns-in-Ok-clause-rule c =
    let made = c.in-Ok.ensures.made in
    high_rule 2 made.0 c.args.number c.args.passes c.in-Ok.made.0 c.in-Ok.made.1.items (omega arith) made.1 made.2

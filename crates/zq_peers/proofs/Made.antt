-- The rule of a site that was made.
use Rattle.std.proofs.Common.{ap, arith, refl, ◌∙◌}
use Rattle.std.specs.Prelude.{List, [], ℕ, ◌∷◌, ◌≡◌, ◌≤◌}
use Rattle.zq_dots.specs.Rule.{rule_of}
use Rattle.zq_dots.specs.declared.rule.Rule.{Rule}
use Rattle.zq_model.specs.Books.{Book}
use Rattle.zq_shard.proofs.SameRules.{same_rule}
use Rattle.zq_spread.specs.Makers.{AreEmptyBooks, IsMade}
use Rattle.zq_spread.specs.declared.pass.Pass.{Pass}
use Rattle.zq_spread.specs.declared.site.Site.{Site}

-- it is that of its empty books
pub made_rule : (heaps n number : ℕ) (rule : Rule) (books : List Book) (site : Site) (passes : List Pass) → 1 ≤ heaps → AreEmptyBooks heaps (rule_of rule) books → IsMade number books n site passes →
    site.rule ≡ rule
made_rule heaps n number rule [] site passes some empty made = absurd (omega (arith, some, empty.number))
made_rule heaps n number rule (b ∷ books) site passes some empty made =
    same_rule site.rule rule (made.rule 0 b refl ∙ ap (λ (x : Book). x.rule) (empty.empty 0 b refl))

-- Sites that were just opened.

use Rattle.std.proofs.Common.{[], List, All, ap, arith, refl, ℕ, ◌++◌, ◌∙◌, ◌∷◌, ◌≡◌, ◌≤◌}
use Rattle.std.proofs.lemmas.List.Elements.{All-cons, All-head, All-nil, All-tail}
use Rattle.zq_dots.specs.declared.rule.Rule.TheVariants.{High}
use Rattle.zq_model.specs.Books.{Book}
use Rattle.zq_model.specs.Rule.{Greatest}
use Rattle.zq_shard.proofs.SameRules.{same_rule}
use Rattle.zq_spread.specs.Makers.{AreEmptyBooks, IsMade}
use Rattle.zq_spread.specs.declared.pass.Pass.{Pass}
use Rattle.zq_spread.specs.declared.site.Site.{Site}

-- a site over empty books has their rule
pub high_rule : (heaps : ℕ) (books : List Book) (number n : ℕ) (site : Site) (passes : List Pass) → 1 ≤ heaps → AreEmptyBooks heaps Greatest books → IsMade number books n site passes → site.rule ≡ High
high_rule heaps [] number n site passes some empty made = absurd (omega (arith, some, empty.number))
high_rule heaps (b ∷ books) number n site passes some empty made = same_rule site.rule High (made.rule 0 b refl ∙ ap (λ x. x.rule) (empty.empty 0 b refl))

-- what holds of all holds of the last ones
pub all_after : {X : Type 0} (P : X → Type 0) (xs ys : List X) → All P (xs ++ ys) → All P ys
all_after P [] ys all = all
all_after P (x ∷ xs) ys all = all_after P xs ys (All-tail P x (xs ++ ys) all)

-- and of the first ones
pub all_before : {X : Type 0} (P : X → Type 0) (xs ys : List X) → All P (xs ++ ys) → All P xs
all_before P [] ys all = All-nil P
all_before P (x ∷ xs) ys all = All-cons P x xs (All-head P x (xs ++ ys) all) (all_before P xs ys (All-tail P x (xs ++ ys) all))

-- Rules of the code that are one rule of the model.

use Rattle.std.proofs.Common.{refl, ◌≡◌}
use Rattle.zq_dots.specs.Rule.{rule_of}
use Rattle.zq_dots.specs.declared.rule.Rule.{Rule}
use Rattle.zq_dots.specs.declared.rule.Rule.TheVariants.{High, Low}

pub same_rule : (a b : Rule) → rule_of a ≡ rule_of b → a ≡ b
same_rule High High e = refl
same_rule High Low e = absurd (cc)
same_rule Low High e = absurd (cc)
same_rule Low Low e = refl

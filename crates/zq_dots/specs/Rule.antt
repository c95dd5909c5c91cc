-- The rule of scores, in the model.

use Rattle.zq_model.specs.Rule as model
use Rattle.zq_dots.specs.declared.rule.Rule.{Rule}
use Rattle.zq_dots.specs.declared.rule.Rule.TheVariants.{High, Low}

abbrev pub rule_of : Rule → model.Rule
rule_of High = model.Greatest
rule_of Low = model.Least

-- That a node is one of its site's is a fact: it has one proof at most.

use Rattle.std.proofs.Props.{props}
use Rattle.std.specs.Coded.{Coded, code_by, coded_ℕ}
use Rattle.std.specs.Prelude.{All, List, refl, suc, zero, ℕ, ◌≡◌}
use Rattle.zq_dots.specs.declared.rule.Rule.{Rule}
use Rattle.zq_dots.specs.declared.rule.Rule.TheVariants.{High, Low}
use Rattle.zq_node.specs.Node.{IsHome, IsNode}
use Rattle.zq_node.specs.declared.home.Home.{Home}
use Rattle.zq_node.specs.declared.node.Node.{Node}
use Rattle.zq_session.specs.PassFacts.{pass_fact}
use Rattle.zq_spread.specs.Passes.{IsPassOf}
use Rattle.zq_spread.specs.declared.pass.Pass.{Pass}
use Rattle.zq_spread.specs.declared.site.Site.{Site}
use base.Stored.{Coded-set}

abbrev rule_number : Rule → ℕ
rule_number High = 0
rule_number Low = 1

abbrev rule_from : ℕ → Rule
rule_from zero = High
rule_from (suc n) = Low

rule-from_number : (rule : Rule) → rule_from (rule_number rule) ≡ rule
rule-from_number High = refl
rule-from_number Low = refl

rule_code : Coded Rule
rule_code = code_by ℕ coded_ℕ rule_number rule_from rule-from_number

rule_fact : (a b : Rule) → IsProp (a ≡ b)
rule_fact = Coded-set rule_code

home_fact : (home : Home) → IsProp (IsHome home)
home_fact home = Prim.hlevel (props, rule_fact)

pub node_fact : (node : Node) → IsProp (IsNode node)
node_fact node = Prim.hlevel (props, home_fact, pass_fact)

pub passes_fact : (site : Site) (passes : List Pass) → IsProp (All (IsPassOf site) passes)
passes_fact site passes = Prim.hlevel (props, pass_fact)

use Rattle.std.proofs.Common.{arith, sym, ◌∙◌}
use Rattle.zq_dots.specs.declared.rule.Rule.TheVariants.{High}
use Rattle.zq_drill.proofs.opening.open.Goals as goal
use Rattle.zq_peers.proofs.Made.{made_rule}

pub invariant_of-new : goal.invariant_of-new
invariant_of-new c =
    let found = c.in-Ok.ensures.made in
    let is = found.2 in
    record {
      number_is = sym is.number_is;
      heaps_are = is.heaps ∙ found.1.number;
      rule_is = made_rule 4 3 c.args.number High found.0 c.in-Ok.made.0 c.in-Ok.made.1.items (omega arith) found.1 is;
    }

use Rattle.std.proofs.Common.{subst, sym, ◌∙◌}
use Rattle.zq_dots.specs.Rule.{rule_of}
use Rattle.zq_shard.specs.Queues.{AreQueues, members_in}
use Rattle.zq_shard.specs.Standing.{order_of}
use Rattle.zq_shard.proofs.queues.Queues.copy.Goals as goal

pub copy_into-requires-clause-full : goal.copy_into-requires-clause-full
copy_into-requires-clause-full c = λ key queue there. (c.self.invariant key queue there).1

pub invariant_of-result : goal.invariant_of-result
invariant_of-result c = subst (AreQueues (rule_of c.self.inside.rule)) (sym c.in_ok-copy_into.ensures) c.self.invariant

pub returns : goal.returns
returns c =
    let same = c.in_ok-copy_into.ensures in
    (λ i. record { rule = rule_of c.self.inside.rule; members = members_in (same i); order = order_of (same i) }) ∙ c.self.view_is

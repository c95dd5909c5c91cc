use Rattle.std.proofs.Common.{ap, rules, sym, tests, ◌∙◌, ◌≡◌}
use Rattle.zq_dots.specs.Rule.{rule_of}
use Rattle.zq_shard.proofs.SameRules.{same_rule}
use Rattle.zq_shard.specs.Queues.{Keyed}
use Rattle.zq_shard.proofs.queues.Queues.has_rule_of.Goals as goal

pub returns : goal.returns
returns c =
    let mine = ap (λ (s : Keyed). s.rule) c.self.view_is in
    let theirs = ap (λ (s : Keyed). s.rule) c.other.view_is in (
      λ t. let one : rule_of c.self.inside.rule ≡ rule_of c.other.inside.rule = search (rules, tests) in sym mine ∙ one ∙ theirs,
      λ same. let one : c.self.inside.rule ≡ c.other.inside.rule = same_rule c.self.inside.rule c.other.inside.rule (mine ∙ same ∙ sym theirs) in search (rules, tests),
    )

use Rattle.std.proofs.Common.{ap, rules, subst, sym, tests, ◌∙◌, ◌≡◌}
use Rattle.std.specs.FinMap.{find}
use Rattle.zq_dots.specs.Rule.{rule_of}
use Rattle.zq_queue.specs.Entries.{bytes_cmp}
use Rattle.zq_shard.proofs.SameQueues.{members_same, queues_same, same_without}
use Rattle.zq_shard.specs.Queues.{AreQueues, Keyed, members_in}
use Rattle.zq_shard.proofs.queues.Queues.same.Goals as goal

pub returns-then-eq : goal.returns-then-eq
returns-then-eq c =
    let a = c.self.inside.queues.entries in
    let b = c.other.inside.queues.entries in
    let one : rule_of c.self.inside.rule ≡ rule_of c.other.inside.rule = search (rules, tests) in (
      λ t.
          let members : members_in a ≡ members_in b = members_same a b (λ q. same_without (find bytes_cmp q a) (find bytes_cmp q b) (c.are_same.ensures.0 t q)) in (
            ap (λ (s : Keyed). s.rule) (sym c.self.view_is) ∙ one ∙ ap (λ (s : Keyed). s.rule) c.other.view_is,
            ap (λ (s : Keyed). s.members) (sym c.self.view_is) ∙ members ∙ ap (λ (s : Keyed). s.members) c.other.view_is,
          ),
      λ same.
          c.are_same.ensures.1 (queues_same (rule_of c.self.inside.rule) a b c.self.invariant (subst (λ r. AreQueues r b) (sym one) c.other.invariant)
          (ap (λ (s : Keyed). s.members) c.self.view_is ∙ same.1 ∙ ap (λ (s : Keyed). s.members) (sym c.other.view_is))),
    )

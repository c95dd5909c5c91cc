use Rattle.std.proofs.Common.{ap, sym, ◌∙◌, ◌≡◌}
use Rattle.std.specs.FinMap.{get, len}
use Rattle.std.specs.Prelude.{[]}
use Rattle.zq_queue.proofs.Sames.{one_map, same_rules}
use Rattle.zq_queue.proofs.queue.Queue.same.Goals as goal

pub returns : goal.returns
returns c =
    let its = c.self.inside.members.entries in
    let mine = ap (λ q. q.entries) c.self.view_is in
    let lens : len its ≡ len c.args.other.now.entries = ap len mine ∙ sym c.len.ensures.number ∙ c.if-len.false ∙ c.len-else-ne.ensures.number in (
      λ within.
          let one = sym mine ∙ one_map its c.args.other.now.entries lens (c.is_within.ensures.0 within) in
          let rules : c.args.self.now.rule ≡ c.args.other.now.rule = sym c.rule.ensures ∙ same_rules c.rule.result c.rule-2.result c.ne.result c.ne.ensures c.if-ne.false ∙ c.rule-2.ensures in
          λ i. record { rule = rules i; entries = one i; places = [] },
      λ same. c.is_within.ensures.1 (λ q e got. ap (λ m. get m q) (sym (mine ∙ ap (λ q. q.entries) same)) ∙ got),
    )

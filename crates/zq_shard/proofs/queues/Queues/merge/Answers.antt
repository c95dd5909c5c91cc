use Rattle.std.proofs.Common.{ap, ap₂, subst, sym, ◌∙◌}
use Rattle.std.specs.Prelude.{option_map}
use Rattle.zq_queue.specs.Queued.{Queued, without_places}
use Rattle.zq_shard.proofs.AtKeys.{unless_is}
use Rattle.zq_shard.proofs.Joined.{members_are_joined}
use Rattle.zq_shard.proofs.SameQueues.{find-without, members_without}
use Rattle.zq_shard.specs.Queues.{AreQueues, Keyed, members_joined, without_places_in}
use Rattle.zq_shard.proofs.queues.Queues.merge.Goals as goal

pub join_mine-requires-clause-kept : goal.join_mine-requires-clause-kept
join_mine-requires-clause-kept c = subst (λ r. AreQueues r c.self.inside.queues.entries) (sym c.new-none.ensures.rule) c.self.invariant

pub join_mine-requires-clause-their_kept : goal.join_mine-requires-clause-their_kept
join_mine-requires-clause-their_kept c =
    subst (λ r. AreQueues r c.other.inside.queues.entries)
    (ap (λ (s : Keyed). s.rule) c.other.view_is ∙ c.requires ∙ sym (ap (λ (s : Keyed). s.rule) c.self.view_is) ∙ sym c.new-none.ensures.rule) c.other.invariant

pub join_theirs-requires-clause-their_kept : goal.join_theirs-requires-clause-their_kept
join_theirs-requires-clause-their_kept c =
    subst (λ r. AreQueues r c.other.inside.queues.entries)
    (ap (λ (s : Keyed). s.rule) c.other.view_is ∙ c.requires ∙ sym (ap (λ (s : Keyed). s.rule) c.self.view_is) ∙ sym c.new-none.ensures.rule) c.other.invariant

pub invariant_of-result : goal.invariant_of-result
invariant_of-result c = λ key queue there.
    let merged = c.join_theirs.new.merged.entries in
    let is = unless_is _ (without_places queue) (sym (c.in_ok-join_theirs.ensures.joined key) ∙ find-without merged key ∙ ap (option_map without_places) there) in
    (sym (ap (λ (q : Queued). q.rule) is.0) ∙ c.new-none.ensures.rule, is.1, c.in_ok-join_theirs.ensures.listed key queue there)

pub returns-clause-joined : goal.returns-clause-joined
returns-clause-joined c =
    let merged = c.join_theirs.new.merged.entries in
    members_without merged
    ∙ members_are_joined c.new-none.result.rule c.args.mine.now c.args.theirs.now c.self.inside.queues.entries c.other.inside.queues.entries (without_places_in merged)
    c.in_ok-join_theirs.ensures.joined
    ∙ ap₂ (members_joined c.args.mine.now c.args.theirs.now) (ap (λ (s : Keyed). s.members) c.self.view_is) (ap (λ (s : Keyed). s.members) c.other.view_is)

use Rattle.std.proofs.Common.{List, None, Option, Some, [], ap, subst, sym, ℕ, ◌∙◌, ◌≡◌}
use Rattle.std.proofs.lemmas.Option.{none-some}
use Rattle.std.specs.FinMap.{find}
use Rattle.std.specs.Map.Iter.{deref_pair}
use Rattle.zq_queue.specs.Entries.{bytes_cmp, joined_entries}
use Rattle.zq_queue.specs.Queued.{Queued}
use Rattle.zq_shard.proofs.Gathering.{gathered_and, turn_begins, turn_end, turn_more, turn_source, turn_start}
use Rattle.zq_shard.proofs.SameQueues.{none_without}
use Rattle.zq_shard.specs.Queues.{HasAt, entries_in, queue_joined, unless_empty, without_places_in}
use Rattle.zq_shard.proofs.joins.join_mine.Goals as goal
use Rattle.zq_shard.proofs.joins.join_mine.Goals.{In-Some}

abbrev value_of : (c : In-Some) → List ℕ → Queued → Option Queued
value_of c q queue = queue_joined c.args.none.now.rule c.args.mine.now c.args.theirs.now (Some queue) (find bytes_cmp q c.args.their_queues.now.entries)

-- the queue that comes has the rule
has_rule : (c : In-Some) → c.in-Some.queue.now.rule ≡ c.args.none.now.rule
has_rule c = (c.requires.kept c.in-Some.key.now c.in-Some.queue.now
    (turn_source deref_pair (value_of c) (λ _. None) c.args.my_queues.now.entries c.loop-key.key-iterator c.next.new.self (without_places_in c.loop-key.merged.entries) c.next.result
    c.loop-key.invariant.gathering c.next.ensures.steps (c.in-Some.key, c.in-Some.queue) c.in-Some.is)).0

pub loop-key-init : goal.loop-key-init
loop-key-init c =
    let gives = c.into_iter-key-iterator.ensures.into_iter_gives in
    record {
      gathering = turn_start _ (λ _. None) c.args.my_queues.now.entries c.into_iter-key-iterator.result (without_places_in c.args.merged.now.entries) gives.0 gives.4
          (λ q. ap (λ es. find bytes_cmp q (without_places_in es)) c.requires.empty);
      listed = λ key queue there. absurd (none-some queue (sym (ap (find bytes_cmp key) c.requires.empty) ∙ there));
    }

pub join_at-requires-clause-absent : goal.join_at-requires-clause-absent
join_at-requires-clause-absent c =
    let d = (goal.at.join_at-requires-clause-absent c).In-Some in
    ap (λ k. find bytes_cmp k c.loop-key.merged.entries) c.as_slice-in-loop-key.ensures
    ∙ none_without c.loop-key.merged.entries c.in-Some.key.now (turn_begins deref_pair (value_of d) (λ _. None) c.args.my_queues.now.entries c.loop-key.key-iterator c.next.new.self (without_places_in c.loop-key.merged.entries) c.next.result
    c.loop-key.invariant.gathering c.next.ensures.steps (c.in-Some.key, c.in-Some.queue) c.in-Some.is)

pub join_at-requires-clause-rule : goal.join_at-requires-clause-rule
join_at-requires-clause-rule c =
    c.queue_or-other.ensures.rule ∙ sym (has_rule (goal.at.join_at-requires-clause-rule c).In-Some) ∙ ap (λ (q : Queued). q.rule) (sym c.get.ensures)

pub loop-key-preserved : goal.loop-key-preserved
loop-key-preserved c =
    let d = (goal.at.loop-key-preserved c).In-Some in
    let queue = c.in-Some.queue.now in
    let lent : c.get.result.now ≡ queue = c.get.ensures in
    let rule : c.get.result.now.rule ≡ c.args.none.now.rule = ap (λ (q : Queued). q.rule) lent ∙ has_rule d in
    let others : c.queue_or-other.result.now.entries ≡ entries_in c.args.their_queues.now.entries c.in-Some.key.now
    = c.queue_or-other.ensures.entries ∙ ap (entries_in c.args.their_queues.now.entries) c.as_slice.ensures in
    let old = without_places_in c.loop-key.merged.entries in
    let new = without_places_in c.join_at.new.merged.entries in
    record {
      gathering = turn_more deref_pair (value_of d) (λ _. None) c.args.my_queues.now.entries c.loop-key.key-iterator c.next.new.self (without_places_in c.loop-key.merged.entries) c.next.result
          c.loop-key.invariant.gathering c.next.ensures.steps (c.in-Some.key, c.in-Some.queue) c.in-Some.is (without_places_in c.join_at.new.merged.entries)
          (subst (λ k. HasAt k (value_of d c.in-Some.key.now queue) old new) c.as_slice-in-loop-key.ensures
          (subst (λ (q : Queued). HasAt c.as_slice-in-loop-key.result.now (unless_empty q) old new)
          (λ i. record { rule = rule i; entries = joined_entries c.args.mine.now c.args.theirs.now (lent i).entries (others i); places = [] }) c.in_ok-join_at.ensures.joined));
      listed = c.in_ok-join_at.ensures.listed c.loop-key.invariant.listed;
    }

pub returns-clause-joined : goal.returns-clause-joined
returns-clause-joined c = λ q.
    let f : List ℕ → Queued → Option Queued = λ k queue. queue_joined c.args.none.now.rule c.args.mine.now c.args.theirs.now (Some queue) (find bytes_cmp k c.args.their_queues.now.entries) in
    turn_end deref_pair f (λ _. None) c.args.my_queues.now.entries c.loop-key.key-iterator c.next.new.self (without_places_in c.loop-key.merged.entries) c.next.result
    c.loop-key.invariant.gathering c.next.ensures.steps c.in-None.is q
    ∙ gathered_and (f q) (find bytes_cmp q c.args.my_queues.now.entries)

use Rattle.std.proofs.Common.{List, Option, Some, [], ap, false, is_some, subst, sym, ℕ, ◌∙◌, ◌≡◌}
use Rattle.std.specs.FinMap.{find}
use Rattle.std.specs.Map.Iter.{deref_pair}
use Rattle.zq_posheap.proofs.Entries.{none_of}
use Rattle.zq_queue.specs.Entries.{Entries, bytes_cmp, joined_entries}
use Rattle.zq_queue.specs.Queued.{Queued}
use Rattle.zq_shard.proofs.ByBytes.{found}
use Rattle.zq_shard.proofs.Gathering.{gathered_at, turn_begins, turn_end, turn_more, turn_skip, turn_source, turn_start}
use Rattle.zq_shard.proofs.Joined.{begins_empty, both_joined, from_first, joined_before}
use Rattle.zq_shard.proofs.SameQueues.{none_without}
use Rattle.zq_shard.specs.Queues.{HasAt, entries_or_none, queue_joined, unless_empty, without_places_in}
use Rattle.zq_shard.proofs.joins.join_theirs.Goals as goal
use Rattle.zq_shard.proofs.joins.join_theirs.Goals.{In-Some}

-- what each side has of a key
abbrev at_mine : (c : In-Some) → List ℕ → Option Queued
at_mine c q = find bytes_cmp q c.args.my_queues.now.entries

abbrev at_theirs : (c : In-Some) → List ℕ → Option Queued
at_theirs c q = find bytes_cmp q c.args.their_queues.now.entries

abbrev value_of : (c : In-Some) → List ℕ → Queued → Option Queued
value_of c q queue = queue_joined c.args.none.now.rule c.args.mine.now c.args.theirs.now (at_mine c q) (Some queue)

abbrev start_of : (c : In-Some) → List ℕ → Option Queued
start_of c q = from_first c.args.none.now.rule c.args.mine.now c.args.theirs.now (at_mine c q) (at_theirs c q)

source_is : (c : In-Some) → at_theirs c c.in-Some.key.now ≡ Some c.in-Some.queue.now
source_is c =
    turn_source deref_pair (value_of c) (start_of c) c.args.their_queues.now.entries c.loop-key.key-iterator c.next.new.self (without_places_in c.loop-key.merged.entries) c.next.result
    c.loop-key.invariant.gathering c.next.ensures.steps (c.in-Some.key, c.in-Some.queue) c.in-Some.is

pub loop-key-init : goal.loop-key-init
loop-key-init c =
    let gives = c.into_iter-key-iterator.ensures.into_iter_gives in
    record {
      gathering = turn_start _ _ c.args.their_queues.now.entries c.into_iter-key-iterator.result (without_places_in c.args.merged.now.entries) gives.0 gives.4 c.requires.begun;
      listed = c.requires.begun_listed;
    }

pub join_at-requires-clause-absent : goal.join_at-requires-clause-absent
join_at-requires-clause-absent c =
    let d = (goal.at.join_at-requires-clause-absent c).In-Some in
    let key = c.in-Some.key.now in
    ap (λ k. find bytes_cmp k c.loop-key.merged.entries) c.as_slice.ensures
    ∙ none_without c.loop-key.merged.entries key (turn_begins deref_pair (value_of d) (start_of d) c.args.their_queues.now.entries c.loop-key.key-iterator c.next.new.self (without_places_in c.loop-key.merged.entries) c.next.result
    c.loop-key.invariant.gathering c.next.ensures.steps (c.in-Some.key, c.in-Some.queue) c.in-Some.is
    ∙ begins_empty c.args.none.now.rule c.args.mine.now c.args.theirs.now (at_mine d key) (at_theirs d key)
    (ap is_some (found c.args.my_queues.now.entries key) ∙ sym c.contains_key.ensures ∙ c.if-not-contains_key.true))

pub join_at-requires-clause-rule : goal.join_at-requires-clause-rule
join_at-requires-clause-rule c =
    ap (λ (q : Queued). q.rule) c.get.ensures
    ∙ (c.requires.their_kept c.in-Some.key.now c.in-Some.queue.now (source_is (goal.at.join_at-requires-clause-rule c).In-Some)).0

pub loop-key-preserved-in-Continue-1 : goal.loop-key-preserved-in-Continue-1
loop-key-preserved-in-Continue-1 c =
    let d = (goal.at.loop-key-preserved-in-Continue-1 c).In-Some in
    let key = c.in-Some.key.now in
    let old = without_places_in c.loop-key.merged.entries in
    let new = without_places_in c.join_at.new.merged.entries in
    let away : is_some (at_mine d key) ≡ false = ap is_some (found c.args.my_queues.now.entries key) ∙ sym c.contains_key.ensures ∙ c.if-not-contains_key.true in
    let nothing : c.args.none.now.entries ≡ entries_or_none (at_mine d key) = c.requires.nothing ∙ sym (ap entries_or_none (none_of (at_mine d key) (sym away))) in
    record {
      gathering = turn_more deref_pair (value_of d) (start_of d) c.args.their_queues.now.entries c.loop-key.key-iterator c.next.new.self (without_places_in c.loop-key.merged.entries) c.next.result
          c.loop-key.invariant.gathering c.next.ensures.steps (c.in-Some.key, c.in-Some.queue) c.in-Some.is (without_places_in c.join_at.new.merged.entries)
          (subst (λ k. HasAt k (value_of d key c.in-Some.queue.now) old new) c.as_slice.ensures
          (subst (λ (es : Entries). HasAt c.as_slice.result.now (unless_empty (record { rule = c.args.none.now.rule; entries = joined_entries c.args.mine.now c.args.theirs.now es c.in-Some.queue.now.entries; places = [] })) old new)
          nothing
          (subst (λ (q : Queued). HasAt c.as_slice.result.now (unless_empty (record { rule = c.args.none.now.rule; entries = joined_entries c.args.mine.now c.args.theirs.now c.args.none.now.entries q.entries; places = [] })) old new)
          c.get.ensures c.in_ok-join_at.ensures.joined)));
      listed = c.in_ok-join_at.ensures.listed c.loop-key.invariant.listed;
    }

pub loop-key-preserved : goal.loop-key-preserved
loop-key-preserved c =
    let d = (goal.at.loop-key-preserved c).In-Some in
    let key = c.in-Some.key.now in
    record {
      gathering = turn_skip deref_pair (value_of d) (start_of d) c.args.their_queues.now.entries c.loop-key.key-iterator c.next.new.self (without_places_in c.loop-key.merged.entries) c.next.result
          c.loop-key.invariant.gathering c.next.ensures.steps (c.in-Some.key, c.in-Some.queue) c.in-Some.is
          (joined_before c.args.none.now.rule c.args.mine.now c.args.theirs.now (at_mine d key) (at_theirs d key) c.in-Some.queue.now
          (ap is_some (found c.args.my_queues.now.entries key) ∙ sym c.contains_key.ensures ∙ c.if-not-contains_key.false) (source_is d));
      listed = c.loop-key.invariant.listed;
    }

pub returns-clause-joined : goal.returns-clause-joined
returns-clause-joined c = λ q.
    let mine : List ℕ → Option Queued = λ k. find bytes_cmp k c.args.my_queues.now.entries in
    let theirs : List ℕ → Option Queued = λ k. find bytes_cmp k c.args.their_queues.now.entries in
    let f : List ℕ → Queued → Option Queued = λ k queue. queue_joined c.args.none.now.rule c.args.mine.now c.args.theirs.now (mine k) (Some queue) in
    let start : List ℕ → Option Queued = λ k. from_first c.args.none.now.rule c.args.mine.now c.args.theirs.now (mine k) (theirs k) in
    let ends = turn_end deref_pair f start c.args.their_queues.now.entries c.loop-key.key-iterator c.next.new.self (without_places_in c.loop-key.merged.entries) c.next.result
    c.loop-key.invariant.gathering c.next.ensures.steps c.in-None.is q in
    both_joined c.args.none.now.rule c.args.mine.now c.args.theirs.now (mine q) (theirs q) (find bytes_cmp q (without_places_in c.loop-key.merged.entries))
    (λ none. ends ∙ ap (gathered_at (f q) (start q)) none)
    (λ y some. ends ∙ ap (gathered_at (f q) (start q)) some)

use Rattle.std.proofs.Common.{None, [], ap, subst, sym, ◌++◌, ◌∙◌, ◌∷◌, ◌≡◌}
use Rattle.std.proofs.lemmas.List.{append-nil, append_assoc}
use Rattle.std.proofs.lemmas.Map.Iter.{rest_all, rest_more}
use Rattle.std.specs.FinMap.{find}
use Rattle.std.specs.Map.Iter.{deref_pair}
use Rattle.zq_queue.specs.Entries.{bytes_cmp}
use Rattle.zq_queue.specs.Queued.{Queued}
use Rattle.zq_shard.proofs.AtKeys.{unless_some}
use Rattle.zq_shard.proofs.Gathering.{turn_begins, turn_more, turn_source, turn_start}
use Rattle.zq_shard.specs.Queues.{HasAt, unless_empty}
use Rattle.zq_shard.specs.Sinking.{IsAddedLast}
use Rattle.zq_shard.proofs.queues.copy_into.Goals as goal

pub loop-key-init : goal.loop-key-init
loop-key-init c =
    let gives = c.into_iter-key-iterator.ensures.into_iter_gives in
    record {
      gathering = turn_start (λ _ queue. unless_empty queue) (λ _. None) c.args.source.now.entries c.into_iter-key-iterator.result c.args.queues.now.entries gives.0 gives.4
          (λ q. ap (λ es. find bytes_cmp q es) c.requires.empty);
      same = ap (λ es. es ++ c.into_iter-key-iterator.result) c.requires.empty ∙ gives.0;
    }

pub add-requires : goal.add-requires
add-requires c = record {
  absent = ap (λ k. find bytes_cmp k c.loop-key.queues.entries) c.as_slice.ensures
      ∙ turn_begins deref_pair (λ _ queue. unless_empty queue) (λ _. None) c.args.source.now.entries c.loop-key.key-iterator c.next.new.self c.loop-key.queues.entries c.next.result
      c.loop-key.invariant.gathering c.next.ensures.steps (c.in-Some.key, c.in-Some.queue) c.in-Some.is;
}

pub loop-key-preserved : goal.loop-key-preserved
loop-key-preserved c =
    let source = c.args.source.now.entries in
    let old = c.loop-key.queues.entries in
    let new = c.add.new.queues.entries in
    let key = c.in-Some.key.now in
    let queue = c.in-Some.queue.now in
    let copy = c.in_ok-copy.ensures ∙ c.get.ensures in
    let there = turn_source deref_pair (λ _ queue. unless_empty queue) (λ _. None) source c.loop-key.key-iterator c.next.new.self old c.next.result
    c.loop-key.invariant.gathering c.next.ensures.steps (c.in-Some.key, c.in-Some.queue) c.in-Some.is in
    let last = subst (λ k. IsAddedLast k (unless_empty queue) old new) c.as_slice.ensures
    (subst (λ (q : Queued). IsAddedLast c.as_slice.result.now (unless_empty q) old new) copy c.in_ok-add.ensures.last) in
    let more : new ≡ old ++ (key, queue) ∷ [] = subst (λ w. IsAddedLast key w old new) (unless_some queue (c.requires.full key queue there)) last in
    record {
      gathering = turn_more deref_pair (λ _ queue. unless_empty queue) (λ _. None) source c.loop-key.key-iterator c.next.new.self old c.next.result
          c.loop-key.invariant.gathering c.next.ensures.steps (c.in-Some.key, c.in-Some.queue) c.in-Some.is new
          (subst (λ k. HasAt k (unless_empty queue) old new) c.as_slice.ensures
          (subst (λ (q : Queued). HasAt c.as_slice.result.now (unless_empty q) old new) copy c.in_ok-add.ensures.added));
      same = ap (λ es. es ++ c.next.new.self) more ∙ append_assoc old ((key, queue) ∷ []) c.next.new.self
          ∙ ap (λ es. old ++ es) (sym (rest_more deref_pair c.loop-key.key-iterator c.next.new.self c.next.result (c.in-Some.key, c.in-Some.queue) c.in-Some.is c.next.ensures.steps))
          ∙ c.loop-key.invariant.same;
    }

pub returns : goal.returns
returns c =
    sym (append-nil c.loop-key.queues.entries)
    ∙ ap (λ es. c.loop-key.queues.entries ++ es) (sym (rest_all deref_pair c.loop-key.key-iterator c.next.new.self c.next.result c.in-None.is c.next.ensures.steps)) ∙ c.loop-key.invariant.same

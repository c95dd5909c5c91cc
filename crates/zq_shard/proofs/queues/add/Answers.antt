use Rattle.std.proofs.Common.{ap, refl, subst, sym, true≢false, ◌∙◌, ◌≡◌}
use Rattle.std.specs.FinMap.{empty, find}
use Rattle.std.specs.Prelude.{[], ◌++◌, ◌∷◌}
use Rattle.indexmap.proofs.CallerLemmas.{insert_entry-new}
use Rattle.zq_posheap.specs.Order.{same_key}
use Rattle.zq_queue.specs.Entries.{bytes_cmp}
use Rattle.zq_queue.specs.Queued.{Queued}
use Rattle.zq_shard.proofs.AtKeys.{unchanged_at, unless_none, unless_some, written_at}
use Rattle.zq_shard.proofs.ByBytes.{found}
use Rattle.zq_shard.specs.Queues.{HasAt, unless_empty}
use Rattle.zq_shard.specs.Sinking.{IsAddedLast}
use Rattle.zq_shard.proofs.queues.add.Goals as goal

pub returns-in_ok-insert-clause-added : goal.returns-in_ok-insert-clause-added
returns-in_ok-insert-clause-added c =
    let updates = c.in_ok-insert.ensures.updates in
    let same = c.in_ok-queue.ensures in
    subst (λ k. HasAt k (unless_empty c.args.queue) c.args.queues.now.entries c.insert.new.self.entries) c.in_ok-key.ensures
    (written_at c.in_ok-key.key c.in_ok-queue.queue c.args.queue c.args.queues.now.entries c.insert.new.self.entries updates.1 updates.3 same
    (λ is. true≢false (sym (c.is_empty.ensures.empty.1 (ap (λ (q : Queued). q.entries) (sym same) ∙ is)) ∙ c.if-not-is_empty.true)))

pub returns-else-not-is_empty-clause-added : goal.returns-else-not-is_empty-clause-added
returns-else-not-is_empty-clause-added c =
    unchanged_at c.args.key.now (unless_empty c.args.queue) c.args.queues.now.entries
    (c.requires.absent ∙ sym (unless_none c.args.queue (c.is_empty.ensures.empty.0 c.if-not-is_empty.false)))

pub returns-in_ok-insert-clause-last : goal.returns-in_ok-insert-clause-last
returns-in_ok-insert-clause-last c =
    let old = c.args.queues.now in
    let new = c.insert.new.self.entries in
    let queue = c.in_ok-queue.queue in
    let same = c.in_ok-queue.ensures in
    let full = λ (is : queue.entries ≡ empty). true≢false (sym (c.is_empty.ensures.empty.1 (ap (λ (q : Queued). q.entries) (sym same) ∙ is)) ∙ c.if-not-is_empty.true) in
    let none = sym (found old.entries c.in_ok-key.key) ∙ ap (λ k. find bytes_cmp k old.entries) c.in_ok-key.ensures ∙ c.requires.absent in
    let last = c.in_ok-insert.ensures.entries ∙ insert_entry-new same_key old c.in_ok-key.key queue none in
    subst (λ w. IsAddedLast c.args.key.now w old.entries new) (sym (unless_some queue full) ∙ ap unless_empty same)
    (subst (λ k. new ≡ old.entries ++ (k, queue) ∷ []) c.in_ok-key.ensures last)

pub returns-else-not-is_empty-clause-last : goal.returns-else-not-is_empty-clause-last
returns-else-not-is_empty-clause-last c =
    subst (λ w. IsAddedLast c.args.key.now w c.args.queues.now.entries c.args.queues.now.entries) (sym (unless_none c.args.queue (c.is_empty.ensures.empty.0 c.if-not-is_empty.false))) refl

use Rattle.std.proofs.Common.{None, Some, ap, refl, subst, sym, true≢false, ◌∙◌, ◌≡◌}
use Rattle.indexmap.specs.IndexMap.{set_value_at}
use Rattle.zq_dots.specs.Rule.{rule_of}
use Rattle.zq_queue.proofs.Changing.{on_any_err}
use Rattle.std.specs.Prelude.{slice_get}
use Rattle.zq_queue.specs.Entries.{set_entry}
use Rattle.zq_queue.specs.Queued.{Queued}
use Rattle.zq_queue.specs.Sinks.{AreListed}
use Rattle.zq_shard.proofs.AtIndex.{key_is, lent_at, none_is, rewritten_at, there_after, updates_at, value_is}
use Rattle.zq_shard.proofs.AtKeys.{entries_found, gone_at, removed_at, written_at}
use Rattle.zq_shard.proofs.ByBytes.{found}
use Rattle.zq_shard.proofs.Sinkings.{set_here, sink_added, sink_removed, sink_written}
use Rattle.zq_shard.proofs.Outcomes.{ok_map₂}
use Rattle.zq_shard.specs.Queues.{HasAt, entries_in, or_none, unless_empty}
use Rattle.zq_shard.specs.Sinking.{IsAddedLast}
use Rattle.zq_shard.proofs.queues.put_back.Goals as goal
use Rattle.zq_shard.proofs.queues.put_back.Goals.{In_ok-put_back, In_ok-put_back-2}

-- the key's queue with this entry
is_after : (c : In_ok-put_back) → c.put_back.new.self ≡ record { rule = rule_of c.args.rule; entries = set_entry (entries_in c.args.queues.now.entries c.args.key.now) c.args.member.now (or_none c.args.before); places = c.put_back.new.self.places }
is_after c =
    let rule = c.in_ok-put_back.ensures.rule ∙ (c.requires.kept c.args.key.now c.get_mut-queue.result.now (found c.args.queues.now.entries c.args.key.now ∙ sym (value_is c.args.queues.now c.in-Some.index c.args.key.now _ c.get_mut-queue.result.now c.in-Some.ensures.there (lent_at c.args.queues.now.entries c.in-Some.index _ c.pair_mut-boxed.ensures.value c.get_mut-queue.ensures.value) c.in-Some.ensures.value))).0 in
    let entries = c.in_ok-put_back.ensures.back ∙ ap (λ es. set_entry es c.args.member.now (or_none c.args.before)) (sym (entries_found c.args.queues.now.entries c.args.key.now (Some c.get_mut-queue.result.now) (value_is c.args.queues.now c.in-Some.index c.args.key.now _ c.get_mut-queue.result.now c.in-Some.ensures.there (lent_at c.args.queues.now.entries c.in-Some.index _ c.pair_mut-boxed.ensures.value c.get_mut-queue.ensures.value) c.in-Some.ensures.value))) in
    λ i. record { rule = rule i; entries = entries i; places = c.put_back.new.self.places }

is_new : (c : In_ok-put_back-2) → c.put_back-2.new.self ≡ record { rule = rule_of c.args.rule; entries = set_entry (entries_in c.args.queues.now.entries c.args.key.now) c.args.member.now (or_none c.args.before); places = c.put_back-2.new.self.places }
is_new c =
    let rule = c.in_ok-put_back-2.ensures.rule ∙ c.new-queue.ensures.rule in
    let entries = c.in_ok-put_back-2.ensures.back ∙ ap (λ es. set_entry es c.args.member.now (or_none c.args.before)) (c.new-queue.ensures.entries ∙ sym (entries_found c.args.queues.now.entries c.args.key.now None (none_is c.args.queues.now.entries c.args.key.now c.in_default.ensures.found))) in
    λ i. record { rule = rule i; entries = entries i; places = c.put_back-2.new.self.places }

pub returns-in_err-put_back-clause-refused : goal.returns-in_err-put_back-clause-refused
returns-in_err-put_back-clause-refused c =
    on_any_err c.from_residual.result (ap (set_value_at c.args.queues.now.entries c.in-Some.index) c.in_err-put_back.ensures.refused
    ∙ rewritten_at c.args.queues.now.entries c.in-Some.index _ c.get_mut-queue.result.now (lent_at c.args.queues.now.entries c.in-Some.index _ c.pair_mut-boxed.ensures.value c.get_mut-queue.ensures.value))

pub returns-then-is_empty-clause-back : goal.returns-then-is_empty-clause-back
returns-then-is_empty-clause-back c =
    let d = (goal.at.returns-then-is_empty-clause-back c).In_ok-put_back in
    let map = c.args.queues.now in
    let old = map.entries in
    let key = c.args.key.now in
    let i = c.in-Some.index in
    let before = c.get_mut-queue.result.now in
    let after = c.put_back.new.self in
    let lent = lent_at old i _ c.pair_mut-boxed.ensures.value c.get_mut-queue.ensures.value in
    let written = updates_at map i key _ before c.in-Some.ensures.there lent c.pair_mut-boxed.ensures.unique after in
    let there : slice_get old i ≡ Some (key, before) = lent ∙ ap (λ k. Some (k, before)) (key_is map i key _ before c.in-Some.ensures.there lent) in
    let without = c.remove_at.ensures.without key (there_after map i key after c.in-Some.ensures.there) in
    record {
      places = after.places;
      has = removed_at key after _ old (set_value_at old i after) c.remove_at.new.queues.entries written.3 without (is_after d) (c.is_empty.ensures.empty.0 c.if-is_empty.true);
      listed = subst AreListed (is_after d) c.is_empty.ensures.listed;
      sinks = sink_removed old i key before after there (key, after) c.remove_at.new.queues.entries (c.remove_at.ensures.last (key, after) (set_here old i key before after there))
          (gone_at key (set_value_at old i after) c.remove_at.new.queues.entries without);
    }

pub returns-else-is_empty-clause-back : goal.returns-else-is_empty-clause-back
returns-else-is_empty-clause-back c =
    let d = (goal.at.returns-else-is_empty-clause-back c).In_ok-put_back in
    let map = c.args.queues.now in
    let old = map.entries in
    let key = c.args.key.now in
    let i = c.in-Some.index in
    let before = c.get_mut-queue.result.now in
    let after = c.put_back.new.self in
    let mid = set_value_at old i after in
    let lent = lent_at old i _ c.pair_mut-boxed.ensures.value c.get_mut-queue.ensures.value in
    let written = updates_at map i key _ before c.in-Some.ensures.there lent c.pair_mut-boxed.ensures.unique after in
    let there : slice_get old i ≡ Some (key, before) = lent ∙ ap (λ k. Some (k, before)) (key_is map i key _ before c.in-Some.ensures.there lent) in
    record {
      places = after.places;
      has = written_at key after _ old mid written.1 written.3 (is_after d) (λ is. true≢false (sym (c.is_empty.ensures.empty.1 is) ∙ c.if-is_empty.false));
      listed = subst AreListed (is_after d) c.is_empty.ensures.listed;
      sinks = sink_written old i key before after there mid refl c.in_ok-put_back.ensures.sinks (entries_found mid key (Some after) (sym written.1));
    }

pub add-requires : goal.add-requires
add-requires c = record {
  absent = found c.args.queues.now.entries c.args.key.now ∙ sym (none_is c.args.queues.now.entries c.args.key.now c.in_default.ensures.found);
}

pub returns-clause-back : goal.returns-clause-back
returns-clause-back c =
    let d = (goal.at.returns-clause-back c).In_ok-put_back-2 in
    ok_map₂ c.add.result c.add.ensures.added c.add.ensures.last
    (λ (added : HasAt c.args.key.now (unless_empty c.put_back-2.new.self) c.args.queues.now.entries c.add.new.queues.entries)
    (last : IsAddedLast c.args.key.now (unless_empty c.put_back-2.new.self) c.args.queues.now.entries c.add.new.queues.entries). record {
      places = c.put_back-2.new.self.places;
      has = subst (λ (q : Queued). HasAt c.args.key.now (unless_empty q) c.args.queues.now.entries c.add.new.queues.entries) (is_new d) added;
      listed = subst AreListed (is_new d) c.add.ensures.listed;
      sinks = sink_added c.args.key.now (unless_empty c.put_back-2.new.self) c.args.queues.now.entries c.add.new.queues.entries last;
    })

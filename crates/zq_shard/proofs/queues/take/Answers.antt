use Rattle.std.proofs.Common.{None, Some, ap, refl, subst, sym, true≢false, ◌∙◌, ◌≡◌}
use Rattle.std.specs.FinMap.{get, get-empty}
use Rattle.indexmap.specs.IndexMap.{set_value_at}
use Rattle.zq_dots.specs.Rule.{rule_of}
use Rattle.zq_queue.proofs.Changing.{on_any_err}
use Rattle.zq_queue.specs.Effects.{HasRoom, entries_after}
use Rattle.std.specs.Prelude.{slice_get}
use Rattle.zq_queue.specs.Entries.{Entries, bytes_cmp, entry_in}
use Rattle.zq_queue.specs.Queued.{Queued}
use Rattle.zq_queue.specs.Sinks.{AreListed}
use Rattle.zq_shard.proofs.AtIndex.{key_is, lent_at, none_is, rewritten_at, there_after, updates_at, value_is}
use Rattle.zq_shard.proofs.AtKeys.{entries_found, gone_at, removed_at, written_at}
use Rattle.zq_shard.proofs.ByBytes.{found}
use Rattle.zq_shard.proofs.Sinkings.{set_here, sink_added, sink_removed, sink_written}
use Rattle.zq_shard.specs.Queues.{HasAt, entries_in, unless_empty}
use Rattle.zq_shard.specs.Sinking.{IsSetAt}
use Rattle.zq_shard.proofs.queues.take.Goals as goal
use Rattle.zq_shard.proofs.queues.take.Goals.{In_ok-before, In_ok-take, else-is_empty, then-is_empty}

-- what the effect makes of the key's queue
is_after : (c : In_ok-before) → c.take.new.self ≡ record { rule = rule_of c.args.rule; entries = entries_after c.args.effect.now c.args.member.now (entries_in c.args.queues.now.entries c.args.key.now); places = c.take.new.self.places }
is_after c =
    let there = value_is c.args.queues.now c.in-Some.index c.args.key.now _ c.get_mut-queue.result.now c.in-Some.ensures.there (lent_at c.args.queues.now.entries c.in-Some.index _ c.pair_mut-boxed.ensures.value c.get_mut-queue.ensures.value) c.in-Some.ensures.value in
    let rule = c.in_ok-before.ensures.rule ∙ (c.requires.kept c.args.key.now c.get_mut-queue.result.now (found c.args.queues.now.entries c.args.key.now ∙ sym there)).0 in
    let entries = c.in_ok-before.ensures.taken ∙ ap (entries_after c.args.effect.now c.args.member.now) (sym (entries_found c.args.queues.now.entries c.args.key.now (Some c.get_mut-queue.result.now) there)) in
    λ i. record { rule = rule i; entries = entries i; places = c.take.new.self.places }

pub take-requires-clause-room : goal.take-requires-clause-room
take-requires-clause-room c =
    subst (λ es. HasRoom c.args.effect.now (entry_in es c.args.member.now)) (entries_found c.args.queues.now.entries c.args.key.now (Some c.get_mut-queue.result.now) (value_is c.args.queues.now c.in-Some.index c.args.key.now _ c.get_mut-queue.result.now c.in-Some.ensures.there (lent_at c.args.queues.now.entries c.in-Some.index _ c.pair_mut-boxed.ensures.value c.get_mut-queue.ensures.value) c.in-Some.ensures.value)) c.requires.room

pub returns-in_err-before-clause-refused : goal.returns-in_err-before-clause-refused
returns-in_err-before-clause-refused c =
    on_any_err c.from_residual.result (ap (set_value_at c.args.queues.now.entries c.in-Some.index) c.in_err-before.ensures.refused
    ∙ rewritten_at c.args.queues.now.entries c.in-Some.index _ c.get_mut-queue.result.now (lent_at c.args.queues.now.entries c.in-Some.index _ c.pair_mut-boxed.ensures.value c.get_mut-queue.ensures.value))

pub returns-in-Some-clause-before : goal.returns-in-Some-clause-before
returns-in-Some-clause-before c =
    c.in_ok-before.ensures.before ∙ ap (λ es. get es c.args.member.now) (sym (entries_found c.args.queues.now.entries c.args.key.now (Some c.get_mut-queue.result.now) (value_is c.args.queues.now c.in-Some.index c.args.key.now _ c.get_mut-queue.result.now c.in-Some.ensures.there (lent_at c.args.queues.now.entries c.in-Some.index _ c.pair_mut-boxed.ensures.value c.get_mut-queue.ensures.value) c.in-Some.ensures.value)))

pub take-requires-2-clause-room : goal.take-requires-2-clause-room
take-requires-2-clause-room c =
    subst (λ es. HasRoom c.args.effect.now (entry_in es c.args.member.now))
    (entries_found c.args.queues.now.entries c.args.key.now None (none_is c.args.queues.now.entries c.args.key.now c.in_default.ensures.found) ∙ sym c.new-queue.ensures.entries) c.requires.room

pub add-requires : goal.add-requires
add-requires c = record {
  absent = found c.args.queues.now.entries c.args.key.now ∙ sym (none_is c.args.queues.now.entries c.args.key.now c.in_default.ensures.found);
}

pub returns-clause-before : goal.returns-clause-before
returns-clause-before c =
    sym (ap (λ es. get es c.args.member.now) (entries_found c.args.queues.now.entries c.args.key.now None (none_is c.args.queues.now.entries c.args.key.now c.in_default.ensures.found)) ∙ get-empty bytes_cmp c.args.member.now)

abbrev entries_then : (c : In_ok-before) → Entries
entries_then c = entries_after c.args.effect.now c.args.member.now (entries_in c.args.queues.now.entries c.args.key.now)

abbrev at_key : (c : In_ok-before) → Queued
at_key c = record { rule = rule_of c.args.rule; entries = entries_then c; places = c.take.new.self.places }

pub returns-in-Some-clause-taken : goal.returns-in-Some-clause-taken
returns-in-Some-clause-taken c =
    let d = (goal.at.returns-in-Some-clause-taken c).In_ok-before in
    let map = c.args.queues.now in
    let old = map.entries in
    let key = c.args.key.now in
    let i = c.in-Some.index in
    let rule = rule_of c.args.rule in
    let before = c.get_mut-queue.result.now in
    let after = c.take.new.self in
    let mid = set_value_at old i after in
    let lent = lent_at old i _ c.pair_mut-boxed.ensures.value c.get_mut-queue.ensures.value in
    let written = updates_at map i key _ before c.in-Some.ensures.there lent c.pair_mut-boxed.ensures.unique after in
    let there : slice_get old i ≡ Some (key, before) = lent ∙ ap (λ k. Some (k, before)) (key_is map i key _ before c.in-Some.ensures.there lent) in
    let listed : AreListed (at_key d) = subst AreListed (is_after d) c.is_empty.ensures.listed in
    elim c.if-is_empty.branch [
      | then-is_empty w ↦
          let without = w.remove_at.ensures.without key (there_after map i key after c.in-Some.ensures.there) in
          subst (λ m. IsSetAt rule key (entries_then d) old m.entries) (sym w.queues-is) (record {
            places = after.places;
            has = removed_at key after (at_key d) old mid w.remove_at.new.queues.entries written.3 without (is_after d) (c.is_empty.ensures.empty.0 w.if-is_empty.true);
            listed = listed;
            sinks = sink_removed old i key before after there (key, after) w.remove_at.new.queues.entries (w.remove_at.ensures.last (key, after) (set_here old i key before after there))
                (gone_at key mid w.remove_at.new.queues.entries without);
          })
      | else-is_empty w ↦
          subst (λ m. IsSetAt rule key (entries_then d) old m.entries) (sym w.queues-is) (record {
            places = after.places;
            has = written_at key after (at_key d) old mid written.1 written.3 (is_after d) (λ is. true≢false (sym (c.is_empty.ensures.empty.1 is) ∙ w.if-is_empty.false));
            listed = listed;
            sinks = sink_written old i key before after there mid refl c.in_ok-before.ensures.sinks (entries_found mid key (Some after) (sym written.1));
          })
    ]

-- what the effect makes of a key that is not there
is_new : (c : In_ok-take) → c.take-2.new.self ≡ record { rule = rule_of c.args.rule; entries = entries_after c.args.effect.now c.args.member.now (entries_in c.args.queues.now.entries c.args.key.now); places = c.take-2.new.self.places }
is_new c =
    let rule = c.in_ok-take.ensures.rule ∙ c.new-queue.ensures.rule in
    let entries = c.in_ok-take.ensures.taken
    ∙ ap (entries_after c.args.effect.now c.args.member.now) (c.new-queue.ensures.entries ∙ sym (entries_found c.args.queues.now.entries c.args.key.now None (none_is c.args.queues.now.entries c.args.key.now c.in_default.ensures.found))) in
    λ i. record { rule = rule i; entries = entries i; places = c.take-2.new.self.places }

pub returns-clause-taken : goal.returns-clause-taken
returns-clause-taken c =
    let d = (goal.at.returns-clause-taken c).In_ok-take in
    record {
      places = c.take-2.new.self.places;
      has = subst (λ (q : Queued). HasAt c.args.key.now (unless_empty q) c.args.queues.now.entries c.add.new.queues.entries) (is_new d) c.in_ok-add.ensures.added;
      listed = subst AreListed (is_new d) c.in_ok-add.ensures.listed;
      sinks = sink_added c.args.key.now (unless_empty c.take-2.new.self) c.args.queues.now.entries c.add.new.queues.entries c.in_ok-add.ensures.last;
    }

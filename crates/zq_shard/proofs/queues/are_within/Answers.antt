use Rattle.std.proofs.Common.{Some, ap, refl, sym, true≢false, ◌∙◌, ◌≡◌}
use Rattle.std.proofs.lemmas.Option.{none-some, same_Some}
use Rattle.std.specs.Map.Iter.{deref_pair}
use Rattle.std.specs.Option.{option_copied}
use Rattle.std.specs.Prelude.{option_map}
use Rattle.zq_queue.specs.Queued.{without_places}
use Rattle.zq_shard.proofs.ByBytes.{found}
use Rattle.zq_shard.proofs.Within.{within_end, within_source, within_start, within_turn}
use Rattle.zq_shard.specs.Queues.{HasSame}
use Rattle.zq_shard.proofs.queues.are_within.Goals as goal

pub loop-key-init : goal.loop-key-init
loop-key-init c =
    let gives = c.into_iter-key-iterator.ensures.into_iter_gives in
    within_start c.args.queues.now.entries c.into_iter-key-iterator.result (HasSame c.args.others.now.entries) gives.0 gives.4

pub loop-key-preserved : goal.loop-key-preserved
loop-key-preserved c =
    within_turn deref_pair c.args.queues.now.entries c.loop-key.key-iterator c.next.new.self (HasSame c.args.others.now.entries) c.next.result c.loop-key.invariant c.next.ensures.steps
    (c.in-Some.key, c.in-Some.queue) c.in-Some.is
    (ap (option_map without_places) (found c.args.others.now.entries c.in-Some.key.now ∙ sym c.in-Some-get.ensures.value)
    ∙ ap Some (sym (ap without_places (sym c.get-in-Some-get.ensures) ∙ c.same.ensures.0 c.if-same.true ∙ ap without_places c.get-in-Some-get-2.ensures)))

pub returns-in_default : goal.returns-in_default
returns-in_default c = (
  λ t. absurd (true≢false (sym t)),
  λ all.
      let mine = within_source deref_pair c.args.queues.now.entries c.loop-key.key-iterator c.next.new.self (HasSame c.args.others.now.entries) c.next.result c.loop-key.invariant c.next.ensures.steps
      (c.in-Some.key, c.in-Some.queue) c.in-Some.is in
      let both : Some (without_places c.in-Some.queue.now) ≡ Some (without_places c.in-Some-get.other.now)
      = sym (all c.in-Some.key.now c.in-Some.queue.now mine) ∙ ap (option_map without_places) (found c.args.others.now.entries c.in-Some.key.now ∙ sym c.in-Some-get.ensures.value) in
      absurd (true≢false (sym (c.same.ensures.1 (ap without_places c.get-in-Some-get.ensures ∙ same_Some _ _ both ∙ ap without_places (sym c.get-in-Some-get-2.ensures))) ∙ c.if-same.false)),
)

pub returns-in_default-2 : goal.returns-in_default-2
returns-in_default-2 c = (
  λ t. absurd (true≢false (sym t)),
  λ all.
      let mine = within_source deref_pair c.args.queues.now.entries c.loop-key.key-iterator c.next.new.self (HasSame c.args.others.now.entries) c.next.result c.loop-key.invariant c.next.ensures.steps
      (c.in-Some.key, c.in-Some.queue) c.in-Some.is in
      absurd (none-some (without_places c.in-Some.queue.now) (ap (option_map without_places) (ap option_copied (sym c.in_default.is) ∙ c.get.ensures.value ∙ sym (found c.args.others.now.entries c.in-Some.key.now))
      ∙ all c.in-Some.key.now c.in-Some.queue.now mine)),
)

pub returns : goal.returns
returns c = (
  λ _. within_end deref_pair c.args.queues.now.entries c.loop-key.key-iterator c.next.new.self (HasSame c.args.others.now.entries) c.next.result c.loop-key.invariant c.next.ensures.steps c.in-None.is,
  λ _. refl,
)

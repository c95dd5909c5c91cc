use Rattle.std.proofs.Common.{ap, refl, subst, sym, ◌∙◌}
use Rattle.std.specs.Prelude.{unwrap_or}
use Rattle.zq_dots.specs.Rule.{rule_of}
use Rattle.zq_model.specs.Image.{no_additions}
use Rattle.zq_queue.specs.Effects.{HasRoom, entries_after}
use Rattle.zq_shard.proofs.AtKeys.{kept_at}
use Rattle.zq_shard.proofs.Changed.{effect_taken}
use Rattle.zq_shard.proofs.Looking.{place_seen}
use Rattle.zq_shard.proofs.Outcomes.{either, if_ok_map, ok_map}
use Rattle.zq_shard.proofs.Sinkings.{seen_sink}
use Rattle.zq_shard.specs.Queues.{AreQueues, entries_in}
use Rattle.zq_shard.specs.Sinking.{queue_with}
use Rattle.zq_shard.proofs.queues.Queues.take.Goals as goal

pub take-requires-clause-room : goal.take-requires-clause-room
take-requires-clause-room c =
    let pairs = c.self.inside.queues.entries in
    let rule = rule_of c.self.inside.rule in
    subst (HasRoom c.args.effect.now) (ap (λ r. unwrap_or r no_additions) (place_seen pairs rule c.args.self.now c.self.view_is (c.args.key.now, c.args.member.now))) c.requires.room

pub invariant_of-self : goal.invariant_of-self
invariant_of-self c =
    let old = c.self.inside.queues.entries in
    let key = c.args.key.now in
    let rule = rule_of c.self.inside.rule in
    either c.take.result c.take.ensures.taken c.take.ensures.refused
    (λ set. kept_at rule key (queue_with rule (entries_after c.args.effect.now c.args.member.now (entries_in old key)) set.places) old c.take.new.queues.entries c.self.invariant set.has refl set.listed)
    (λ same. subst (AreQueues rule) (sym same) c.self.invariant)

pub returns-clause-before : goal.returns-clause-before
returns-clause-before c =
    if_ok_map c.take.result c.take.ensures.before
    (λ b is. is ∙ sym (place_seen c.self.inside.queues.entries (rule_of c.self.inside.rule) c.args.self.now c.self.view_is (c.args.key.now, c.args.member.now)))

pub returns-clause-taken : goal.returns-clause-taken
returns-clause-taken c =
    let rule = rule_of c.self.inside.rule in
    ok_map c.take.result c.take.ensures.taken
    (λ set. effect_taken c.self.inside.queues.entries rule c.args.self.now c.self.view_is c.take.new.queues.entries rule set.places c.args.effect.now (c.args.key.now, c.args.member.now) set.has)

pub returns-clause-sinks : goal.returns-clause-sinks
returns-clause-sinks c =
    ok_map c.take.result c.take.ensures.taken
    (λ set. seen_sink c.self.inside.queues.entries c.take.new.queues.entries (rule_of c.self.inside.rule) c.args.self.now _ c.self.view_is refl set.sinks)

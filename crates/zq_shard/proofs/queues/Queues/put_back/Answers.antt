use Rattle.std.proofs.Common.{refl, subst, sym}
use Rattle.zq_dots.specs.Rule.{rule_of}
use Rattle.zq_queue.specs.Entries.{set_entry}
use Rattle.zq_shard.proofs.AtKeys.{kept_at}
use Rattle.zq_shard.proofs.Changed.{entry_set}
use Rattle.zq_shard.proofs.Outcomes.{either, ok_map}
use Rattle.zq_shard.proofs.Sinkings.{seen_sink}
use Rattle.zq_shard.specs.Queues.{AreQueues, entries_in, or_none}
use Rattle.zq_shard.specs.Sinking.{queue_with}
use Rattle.zq_shard.proofs.queues.Queues.put_back.Goals as goal

pub invariant_of-self : goal.invariant_of-self
invariant_of-self c =
    let old = c.self.inside.queues.entries in
    let rule = rule_of c.self.inside.rule in
    either c.put_back.result c.put_back.ensures.back c.put_back.ensures.refused
    (λ set. kept_at rule c.args.key.now (queue_with rule (set_entry (entries_in old c.args.key.now) c.args.member.now (or_none c.args.before)) set.places) old c.put_back.new.queues.entries
    c.self.invariant set.has refl set.listed)
    (λ same. subst (AreQueues rule) (sym same) c.self.invariant)

pub returns-clause-back : goal.returns-clause-back
returns-clause-back c =
    ok_map c.put_back.result c.put_back.ensures.back
    (λ set. entry_set c.self.inside.queues.entries (rule_of c.self.inside.rule) c.args.self.now c.self.view_is c.put_back.new.queues.entries (rule_of c.self.inside.rule) set.places
    c.args.key.now c.args.member.now (or_none c.args.before) set.has)

pub returns-clause-sinks : goal.returns-clause-sinks
returns-clause-sinks c =
    ok_map c.put_back.result c.put_back.ensures.back
    (λ set. seen_sink c.self.inside.queues.entries c.put_back.new.queues.entries (rule_of c.self.inside.rule) c.args.self.now _ c.self.view_is refl set.sinks)

use Rattle.std.proofs.Common.{None, Some, ap, sym, ◌∙◌}
use Rattle.zq_queue.specs.Queued.{Queued}
use Rattle.zq_shard.proofs.AtKeys.{entries_found}
use Rattle.zq_shard.proofs.ByBytes.{found}
use Rattle.zq_shard.proofs.joins.queue_or.Goals as goal

pub returns-in-Some-clause-rule : goal.returns-in-Some-clause-rule
returns-in-Some-clause-rule c =
    ap (λ (q : Queued). q.rule) c.get-in-Some.ensures
    ∙ (c.requires.kept c.args.key.now c.in-Some.queue.now (found c.args.queues.now.entries c.args.key.now ∙ sym c.in-Some.ensures.value)).0

pub returns-in-Some-clause-entries : goal.returns-in-Some-clause-entries
returns-in-Some-clause-entries c =
    ap (λ (q : Queued). q.entries) c.get-in-Some.ensures
    ∙ sym (entries_found c.args.queues.now.entries c.args.key.now (Some c.in-Some.queue.now) c.in-Some.ensures.value)

pub returns-in-None-clause-entries : goal.returns-in-None-clause-entries
returns-in-None-clause-entries c = c.requires.nothing ∙ sym (entries_found c.args.queues.now.entries c.args.key.now None c.in-None.ensures.value)

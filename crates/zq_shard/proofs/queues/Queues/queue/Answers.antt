use Rattle.std.proofs.Common.{None, Some, ap, ◌∙◌}
use Rattle.zq_dots.specs.Rule.{rule_of}
use Rattle.zq_queue.specs.Listed.{listed}
use Rattle.zq_queue.specs.Queued.{Queued}
use Rattle.zq_shard.proofs.Looking.{look_absent, look_entries, look_list, look_no_list, look_rule}
use Rattle.zq_shard.proofs.queues.Queues.queue.Goals as goal

pub returns-in-Some-clause-entries : goal.returns-in-Some-clause-entries
returns-in-Some-clause-entries c =
    ap (λ (q : Queued). q.entries) c.get-in-Some.ensures
    ∙ look_entries c.self.inside.queues.entries (rule_of c.self.inside.rule) c.args.self.now c.self.view_is c.args.key.now (Some c.in-Some.queue) c.in-Some.ensures

pub returns-in-Some-clause-rule : goal.returns-in-Some-clause-rule
returns-in-Some-clause-rule c =
    ap (λ (q : Queued). q.rule) c.get-in-Some.ensures
    ∙ look_rule c.self.inside.queues.entries (rule_of c.self.inside.rule) c.args.self.now c.self.view_is c.args.key.now c.self.invariant (Some c.in-Some.queue) c.in-Some.ensures

pub returns-in-Some-clause-list : goal.returns-in-Some-clause-list
returns-in-Some-clause-list c =
    ap (λ (q : Queued). listed q.rule q.entries) c.get-in-Some.ensures
    ∙ look_list c.self.inside.queues.entries (rule_of c.self.inside.rule) c.args.self.now c.self.view_is c.args.key.now c.self.invariant (Some c.in-Some.queue) c.in-Some.ensures

pub returns-in-None-clause-absent : goal.returns-in-None-clause-absent
returns-in-None-clause-absent c = look_absent c.self.inside.queues.entries (rule_of c.self.inside.rule) c.args.self.now c.self.view_is c.args.key.now None c.in-None.ensures

pub returns-in-None-clause-no_list : goal.returns-in-None-clause-no_list
returns-in-None-clause-no_list c = look_no_list c.self.inside.queues.entries (rule_of c.self.inside.rule) c.args.self.now c.self.view_is c.args.key.now None c.in-None.ensures

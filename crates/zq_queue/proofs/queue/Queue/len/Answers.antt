use Rattle.std.proofs.Common.{ap, subst, sym, ◌∙◌}
use Rattle.std.specs.FinMap.{len}
use Rattle.std.specs.Prelude.{length}
use Rattle.zq_queue.proofs.Listeds.{length-listed_entries}
use Rattle.zq_queue.specs.Entries.{NoneIsBare}
use Rattle.zq_queue.specs.Listed.{listed}
use Rattle.zq_queue.proofs.queue.Queue.len.Goals as goal

pub returns-clause-number : goal.returns-clause-number
returns-clause-number c = c.len.ensures.number ∙ ap (λ q. len q.entries) c.self.view_is

pub returns-clause-queue : goal.returns-clause-queue
returns-clause-queue c = c.len.ensures.number ∙ sym (length-listed_entries c.self.inside.members.rule c.self.inside.members.entries c.len.ensures.kept)
    ∙ ap (λ q. length (listed q.rule q.entries)) c.self.view_is

pub returns-clause-kept : goal.returns-clause-kept
returns-clause-kept c = subst (λ q. NoneIsBare q.entries) c.self.view_is c.len.ensures.kept

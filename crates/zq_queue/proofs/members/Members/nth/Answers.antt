use Rattle.std.proofs.Common.{ap, sym, ◌∙◌}
use Rattle.std.specs.FinMap.{get}
use Rattle.zq_dots.specs.Rule.{rule_of}
use Rattle.zq_queue.proofs.Eithers.{many_entries}
use Rattle.zq_queue.proofs.Helds.{get-entries_of}
use Rattle.zq_queue.proofs.Placed.{some_map}
use Rattle.zq_queue.proofs.members.Members.nth.Goals as goal

pub returns-in-Many-clause-entry : goal.returns-in-Many-clause-entry
returns-in-Many-clause-entry c =
    let x = c.deref-in-Many.result.now in
    some_map c.nth-in-Many.result c.nth-in-Many.ensures.entry (λ row is.
    ap (λ k. get k.entries row.0.now) (sym c.self.view_is)
    ∙ ap (λ m. get m row.0.now) (sym (many_entries (rule_of c.self.inside.rule) c.self.inside.form c.in-Many.many x c.in-Many.is c.deref-in-Many.ensures c.self.invariant))
    ∙ get-entries_of x.held row.0.now ∙ is)

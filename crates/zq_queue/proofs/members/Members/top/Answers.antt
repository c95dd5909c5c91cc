use Rattle.std.proofs.Common.{ap, sym, ◌∙◌}
use Rattle.std.specs.Prelude.{option_map, slice_get}
use Rattle.zq_dots.specs.Rule.{rule_of}
use Rattle.zq_queue.proofs.Eithers.{few_head, many_order}
use Rattle.zq_queue.specs.Lent.{lent_pair}
use Rattle.zq_queue.specs.Listed.{listed}
use Rattle.zq_queue.proofs.members.Members.top.Goals as goal

pub returns-in-Few : goal.returns-in-Few
returns-in-Few c =
    few_head (rule_of c.self.inside.rule) c.self.inside.form c.in-Few.list c.deref.result.now c.in-Few.is c.deref.ensures.value c.self.invariant (option_map lent_pair c.top.result) c.top.ensures
    ∙ ap (λ k. slice_get (listed k.rule k.entries) 0) c.self.view_is

pub returns-in-Many : goal.returns-in-Many
returns-in-Many c =
    sym (c.top-in-Many.ensures _ (many_order (rule_of c.self.inside.rule) c.self.inside.form c.in-Many.many c.deref-in-Many.result.now c.in-Many.is c.deref-in-Many.ensures c.self.invariant))
    ∙ ap (λ k. slice_get (listed k.rule k.entries) 0) c.self.view_is

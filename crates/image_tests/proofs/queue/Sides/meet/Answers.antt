use Rattle.std.proofs.Common.{sym, ◌∙◌}
use Rattle.zq_queue.proofs.Sames.{same_rules}
use Rattle.image_tests.proofs.queue.Sides.meet.Goals as goal

pub merge-requires : goal.merge-requires
merge-requires c = sym (sym c.rule.ensures ∙ same_rules c.rule.result c.rule-2.result c.ne.result c.ne.ensures c.if-ne.false ∙ c.rule-2.ensures)

pub merge-requires-2 : goal.merge-requires-2
merge-requires-2 c = sym c.rule.ensures ∙ same_rules c.rule.result c.rule-2.result c.ne.result c.ne.ensures c.if-ne.false ∙ c.rule-2.ensures

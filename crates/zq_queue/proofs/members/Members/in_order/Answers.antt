use Rattle.std.proofs.Common.{ap, ◌∙◌}
use Rattle.std.proofs.lemmas.Result.{IfOk-weaker}
use Rattle.std.specs.Prelude.{map, ◌≡◌}
use Rattle.zq_dots.specs.Rule.{rule_of}
use Rattle.zq_posheap.specs.InOrder.{ListsInOrder}
use Rattle.zq_posheap.specs.Members.{scores_of}
use Rattle.zq_queue.proofs.Eithers.{many_order}
use Rattle.zq_queue.proofs.Listeds.{order_one}
use Rattle.zq_queue.specs.Form.{entries_in}
use Rattle.zq_queue.specs.Lent.{lent_pair}
use Rattle.zq_queue.specs.Listed.{listed}
use Rattle.zq_queue.proofs.members.Members.in_order.Goals as goal

pub returns-in-Many : goal.returns-in-Many
returns-in-Many c =
    let scores = scores_of c.deref-in-Many.result.now.held in
    IfOk-weaker c.in_order-in-Many.result (λ pairs. ListsInOrder scores (map lent_pair pairs.items)) (λ pairs. map lent_pair pairs.items ≡ listed c.args.self.now.rule c.args.self.now.entries)
    (λ pairs order. order_one scores (map lent_pair pairs.items) (listed (rule_of c.self.inside.rule) (entries_in c.self.inside.form)) order
    (many_order (rule_of c.self.inside.rule) c.self.inside.form c.in-Many.many c.deref-in-Many.result.now c.in-Many.is c.deref-in-Many.ensures c.self.invariant)
    ∙ ap (λ k. listed k.rule k.entries) c.self.view_is) c.in_order-in-Many.ensures

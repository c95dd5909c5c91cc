use Rattle.std.proofs.Common.{ap, ◌∙◌}
use Rattle.std.proofs.lemmas.Result.{IfOk-weaker}
use Rattle.std.specs.Prelude.{List, map, take, ◌≡◌}
use Rattle.zq_dots.specs.Rule.{rule_of}
use Rattle.zq_model.specs.Meaning.{Scored}
use Rattle.zq_posheap.specs.InOrder.{ListsInOrder}
use Rattle.zq_posheap.specs.Members.{scores_of}
use Rattle.zq_queue.proofs.Eithers.{many_order}
use Rattle.zq_queue.specs.Lent.{lent_pair}
use Rattle.zq_queue.specs.Listed.{listed}
use Rattle.zq_queue.proofs.members.Members.first.Goals as goal

pub returns-in-Many : goal.returns-in-Many
returns-in-Many c =
    let scores = scores_of c.deref-in-Many.result.now.held in
    IfOk-weaker c.first-in-Many.result (λ those. (pairs : List Scored) → ListsInOrder scores pairs → map lent_pair those.items ≡ take c.args.count pairs)
    (λ those. map lent_pair those.items ≡ take c.args.count (listed c.args.self.now.rule c.args.self.now.entries))
    (λ those are. are _ (many_order (rule_of c.self.inside.rule) c.self.inside.form c.in-Many.many c.deref-in-Many.result.now c.in-Many.is c.deref-in-Many.ensures c.self.invariant)
    ∙ ap (λ k. take c.args.count (listed k.rule k.entries)) c.self.view_is) c.first-in-Many.ensures

use Rattle.std.proofs.Common.{ap, ◌∙◌}
use Rattle.std.proofs.lemmas.Result.{IfOk-weaker}
use Rattle.std.specs.Prelude.{map, ◌≡◌}
use Rattle.zq_queue.specs.Lent.{lent_pair}
use Rattle.zq_queue.specs.Listed.{listed}
use Rattle.zq_queue.proofs.queue.Queue.in_order.Goals as goal

pub returns : goal.returns
returns c = IfOk-weaker c.in_order.result (λ pairs. map lent_pair pairs.items ≡ listed c.self.inside.members.rule c.self.inside.members.entries) (λ pairs. map lent_pair pairs.items ≡ listed c.args.self.now.rule c.args.self.now.entries)
    (λ pairs are. are ∙ ap (λ q. listed q.rule q.entries) c.self.view_is) c.in_order.ensures

use Rattle.std.proofs.Common.{ap, ◌∙◌}
use Rattle.std.proofs.lemmas.Result.{IfOk-weaker}
use Rattle.std.specs.Prelude.{map, take, ◌≡◌}
use Rattle.zq_queue.specs.Lent.{lent_pair}
use Rattle.zq_queue.specs.Listed.{listed}
use Rattle.zq_queue.proofs.queue.Queue.first.Goals as goal

pub returns : goal.returns
returns c = IfOk-weaker c.first.result (λ pairs. map lent_pair pairs.items ≡ take c.args.count (listed c.self.inside.members.rule c.self.inside.members.entries)) (λ pairs. map lent_pair pairs.items ≡ take c.args.count (listed c.args.self.now.rule c.args.self.now.entries))
    (λ pairs are. are ∙ ap (λ q. take c.args.count (listed q.rule q.entries)) c.self.view_is) c.first.ensures

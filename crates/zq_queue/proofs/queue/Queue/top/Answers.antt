use Rattle.std.proofs.Common.{ap, ◌∙◌}
use Rattle.std.specs.Prelude.{slice_get}
use Rattle.zq_queue.specs.Listed.{listed}
use Rattle.zq_queue.proofs.queue.Queue.top.Goals as goal

pub returns : goal.returns
returns c = c.top.ensures ∙ ap (λ q. slice_get (listed q.rule q.entries) 0) c.self.view_is

use Rattle.std.proofs.Common.{ap, ◌∙◌}
use Rattle.zq_model.specs.Score.{score_of}
use Rattle.zq_queue.specs.Entries.{entry_in}
use Rattle.zq_queue.proofs.queue.Queue.score.Goals as goal

pub returns : goal.returns
returns c = c.score.ensures.score ∙ ap (λ q. score_of q.rule (entry_in q.entries c.args.member.now)) c.self.view_is

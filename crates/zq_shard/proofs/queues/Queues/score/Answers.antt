use Rattle.std.proofs.Common.{ap, ◌∙◌}
use Rattle.zq_model.specs.Score.{score_of}
use Rattle.zq_queue.specs.Entries.{entry_in}
use Rattle.zq_shard.proofs.Looking.{no_score_seen, score_seen}
use Rattle.zq_shard.proofs.queues.Queues.score.Goals as goal

pub returns-in-Some : goal.returns-in-Some
returns-in-Some c = c.score.ensures ∙ ap (λ r. score_of r (entry_in c.in-Some.queue.now.entries c.args.member.now)) c.in-Some.ensures.rule ∙ score_seen c.args.self.now c.args.key.now c.args.member.now c.in-Some.queue.now.entries c.in-Some.ensures.entries

pub returns-in-None : goal.returns-in-None
returns-in-None c = no_score_seen c.args.self.now c.args.key.now c.args.member.now c.in-None.ensures.absent

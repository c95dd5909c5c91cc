use Rattle.std.proofs.Common.{ap, ◌∙◌, ◌≡◌}
use Rattle.zq_model.specs.Image.{entry_at}
use Rattle.zq_model.specs.Score.{score_of}
use Rattle.zq_shard.proofs.Meant.{score_absent, score_meant}
use Rattle.zq_shard.specs.Shard.{HeapImage}
use Rattle.zq_shard.proofs.shard.Shard.score.Goals as goal
use Rattle.zq_shard.proofs.shard.Shard.score.Goals.{After-score}

scored : (c : After-score) → c.score.result ≡ score_of c.args.self.now.rule (entry_at c.args.self.now.image.members (c.args.key.now, c.args.member.now))
scored c = c.score.ensures ∙ ap (λ (s : HeapImage). score_of s.rule (entry_at s.image.members (c.args.key.now, c.args.member.now))) c.self.view_is

pub returns-clause-meant : goal.returns-clause-meant
returns-clause-meant c = λ S x holds. score_meant c.args.self.now S c.args.key.now holds c.args.member.now c.score.result (scored (goal.at.returns-clause-meant c).After-score) x

pub returns-clause-absent : goal.returns-clause-absent
returns-clause-absent c = λ S holds. score_absent c.args.self.now S c.args.key.now holds c.args.member.now c.score.result (scored (goal.at.returns-clause-absent c).After-score)

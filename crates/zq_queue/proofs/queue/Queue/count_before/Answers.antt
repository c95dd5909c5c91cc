use Rattle.std.proofs.Common.{ap, ◌∙◌}
use Rattle.std.proofs.lemmas.Int.{to_z-of_z}
use Rattle.std.specs.Int.{w128}
use Rattle.std.specs.Ordering.{is_lt}
use Rattle.std.specs.Prelude.{List, count_by, ℕ}
use Rattle.zq_model.specs.Meaning.{Scored, scored_cmp}
use Rattle.zq_queue.specs.Listed.{listed}
use Rattle.zq_queue.proofs.queue.Queue.count_before.Goals as goal

abbrev before : Scored → List Scored → ℕ
before its pairs = count_by (λ pair. is_lt (scored_cmp pair its)) pairs

pub returns : goal.returns
returns c =
    let m = c.args.member.now in
    c.count_before.ensures
    ∙ ap (λ x. before (x, m) (listed c.self.inside.members.rule c.self.inside.members.entries)) (to_z-of_z w128 c.args.score c.ranges.score)
    ∙ ap (λ q. before (c.args.score, m) (listed q.rule q.entries)) c.self.view_is

use Rattle.std.proofs.Common.{ap, ◌∙◌}
use Rattle.std.proofs.lemmas.Int.{to_z-of_z}
use Rattle.std.specs.Int.{w128}
use Rattle.std.specs.Ordering.{int_cmp, is_le, is_lt}
use Rattle.std.specs.Prelude.{Bool, List, count_by, if◌then◌else◌, ℕ, ℤ}
use Rattle.zq_model.specs.Meaning.{Scored}
use Rattle.zq_queue.specs.Listed.{listed}
use Rattle.zq_queue.proofs.queue.Queue.count_below.Goals as goal

abbrev below : Bool → ℤ → List Scored → ℕ
below or_equal score pairs = count_by (λ pair. if or_equal then is_le (int_cmp pair.0 score) else is_lt (int_cmp pair.0 score)) pairs

pub returns : goal.returns
returns c =
    c.count_below.ensures
    ∙ ap (λ x. below c.args.or_equal x (listed c.self.inside.members.rule c.self.inside.members.entries)) (to_z-of_z w128 c.args.score c.ranges.score)
    ∙ ap (λ q. below c.args.or_equal c.args.score (listed q.rule q.entries)) c.self.view_is

use Rattle.std.proofs.Common.{ap, sym, ◌∙◌}
use Rattle.std.proofs.lemmas.Int.{to_z-of_z}
use Rattle.std.specs.Int.{w128}
use Rattle.std.specs.Ordering.{int_cmp, is_le, is_lt}
use Rattle.std.specs.Prelude.{Bool, List, count_by, if◌then◌else◌, ℕ, ℤ}
use Rattle.zq_model.specs.Meaning.{Scored}
use Rattle.zq_queue.specs.Listed.{listed}
use Rattle.zq_shard.proofs.Meant.{queue_meant}
use Rattle.zq_shard.specs.Shard.{HeapImage, queue_at}
use Rattle.zq_shard.proofs.shard.Shard.count_below.Goals as goal

abbrev below : Bool → ℤ → List Scored → ℕ
below or_equal score pairs = count_by (λ pair. if or_equal then is_le (int_cmp pair.0 score) else is_lt (int_cmp pair.0 score)) pairs

pub returns-in-Some-clause-meant : goal.returns-in-Some-clause-meant
returns-in-Some-clause-meant c = λ S q meant.
    c.count_below.ensures
    ∙ ap (λ x. below c.args.or_equal x (listed c.in-Some.queue.now.rule c.in-Some.queue.now.entries)) (to_z-of_z w128 c.args.score c.ranges.score)
    ∙ ap (below c.args.or_equal c.args.score) (c.in-Some.ensures.list ∙ ap (λ (s : HeapImage). queue_at s c.args.key.now) c.self.view_is ∙ queue_meant c.args.self.now S c.args.key.now q meant)

pub returns-in-None-clause-meant : goal.returns-in-None-clause-meant
returns-in-None-clause-meant c = λ S q meant.
    ap (below c.args.or_equal c.args.score) (sym c.in-None.ensures.no_list ∙ ap (λ (s : HeapImage). queue_at s c.args.key.now) c.self.view_is ∙ queue_meant c.args.self.now S c.args.key.now q meant)

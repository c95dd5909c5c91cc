use Rattle.std.proofs.Common.{ap, sym, ◌∙◌}
use Rattle.std.proofs.lemmas.Int.{to_z-of_z}
use Rattle.std.specs.Int.{w128}
use Rattle.std.specs.Ordering.{is_lt}
use Rattle.std.specs.Prelude.{List, count_by, ℕ}
use Rattle.zq_model.specs.Meaning.{Scored, scored_cmp}
use Rattle.zq_queue.specs.Listed.{listed}
use Rattle.zq_shard.proofs.Meant.{queue_meant}
use Rattle.zq_shard.specs.Shard.{HeapImage, queue_at}
use Rattle.zq_shard.proofs.shard.Shard.count_after.Goals as goal

abbrev after : Scored → List Scored → ℕ
after its pairs = count_by (λ pair. is_lt (scored_cmp its pair)) pairs

pub returns-in-Some-clause-meant : goal.returns-in-Some-clause-meant
returns-in-Some-clause-meant c = λ S q meant.
    let m = c.args.member.now in
    c.count_after.ensures
    ∙ ap (λ x. after (x, m) (listed c.in-Some.queue.now.rule c.in-Some.queue.now.entries)) (to_z-of_z w128 c.args.score c.ranges.score)
    ∙ ap (after (c.args.score, m)) (c.in-Some.ensures.list ∙ ap (λ (s : HeapImage). queue_at s c.args.key.now) c.self.view_is ∙ queue_meant c.args.self.now S c.args.key.now q meant)

pub returns-in-None-clause-meant : goal.returns-in-None-clause-meant
returns-in-None-clause-meant c = λ S q meant.
    ap (after (c.args.score, c.args.member.now)) (sym c.in-None.ensures.no_list ∙ ap (λ (s : HeapImage). queue_at s c.args.key.now) c.self.view_is ∙ queue_meant c.args.self.now S c.args.key.now q meant)

use Rattle.std.proofs.Common.{ap, rules, ◌∙◌}
use Rattle.std.specs.FinMap.{entries}
use Rattle.std.proofs.lemmas.List.Sorted.{answers_always}
use Rattle.zq_queue.proofs.Rowed.{sorted_rows}
use Rattle.zq_queue.proofs.queue.Queue.rows.Goals as goal

pub returns : goal.returns
returns c =
    sorted_rows c.self.inside.members.entries c.in_ok-rows.rows.items c.sort_unstable_by_key.new.self.items c.in_ok-rows.ensures c.sort_unstable_by_key.ensures.permutation
    (c.sort_unstable_by_key.ensures.sorted (λ r. r.0) (answers_always _ _ _ (λ f a r g h. search rules)))
    ∙ ap (λ q. entries q.entries) c.self.view_is

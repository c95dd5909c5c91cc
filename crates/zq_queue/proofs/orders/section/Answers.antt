use Rattle.std.proofs.Common.{ap, ◌∙◌, ◌≡◌}
use Rattle.std.proofs.lemmas.Result.{IfOk-weaker}
use Rattle.std.specs.Prelude.{drop, length, map, min, take, ◌-◌}
use Rattle.zq_posheap.specs.Listing.{lent_pair}
use Rattle.zq_queue.proofs.Parts.{part_count}
use Rattle.zq_queue.proofs.orders.section.Goals as goal

pub returns : goal.returns
returns c =
    let xs = c.args.index.now in
    let from = c.args.from in
    let count : c.saturating_sub-count.result ≡ min c.args.to (length xs) - from = c.saturating_sub-count.ensures ∙ ap (λ n. n - from) (c.min.ensures ∙ ap (min c.args.to) c.len.ensures.len) in
    IfOk-weaker c.firsts.result (λ firsts. map lent_pair firsts.items ≡ take c.saturating_sub-count.result c.iter_from.result) (λ pairs. map lent_pair pairs.items ≡ take (c.args.to - from) (drop from xs))
    (λ firsts are. are ∙ (λ k. take (count k) (c.iter_from.ensures k)) ∙ part_count xs from c.args.to) c.firsts.ensures

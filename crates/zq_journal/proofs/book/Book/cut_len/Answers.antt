use Rattle.std.proofs.Common.{length, max, min, ℕ, ◌∙◌, ap}
use Rattle.zq_model.specs.Reach.{cut_at_most, cut_by_bytes, cut_by_length}
use Rattle.zq_journal.proofs.Weights.{cut_once}
use Rattle.zq_journal.proofs.book.Book.cut_len.Goals as goal

pub returns : goal.returns
returns c =
    let b = c.args.self.now in
    let n : ℕ = length b.tail in
    let same = cut_once n (cut_at_most b.handed b.count n) (cut_by_length b.limits n) (cut_by_bytes b.limits.bytes b.tail) (c.cutting.ensures.within b) in
    c.min.ensures
    ∙ ap (λ m. min m c.most_cut-most.result) c.max-long.ensures
    ∙ ap (λ l. min (max l c.cut_by_bytes.result) c.most_cut-most.result) c.cut_by_length.ensures
    ∙ ap (λ r. min (max (cut_by_length b.limits n) r) c.most_cut-most.result) c.cut_by_bytes.ensures
    ∙ ap (λ m. min (max (cut_by_length b.limits n) (min m (cut_by_bytes b.limits.bytes b.tail))) m) c.most_cut-most.ensures
    ∙ same

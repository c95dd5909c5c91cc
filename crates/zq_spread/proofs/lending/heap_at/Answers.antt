use Rattle.std.proofs.Common.{◌∙◌}
use Rattle.zq_spread.proofs.Alone.{only_at}
use Rattle.zq_spread.proofs.lending.heap_at.Goals as goal

pub returns : goal.returns
returns c = λ book is.
    let here = only_at c.args._place c.args.kept.now.book book is in
    c.shard.ensures.same ∙ (λ i. record { heap = (here i).heap; heaps = (here i).heaps; rule = c.args.kept.now.book.rule; image = (here i).state })

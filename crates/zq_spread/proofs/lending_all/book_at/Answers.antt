use Rattle.std.proofs.Common.{Some, ap, arith, length, sym, ◌<◌, ◌∙◌}
use Rattle.std.proofs.lemmas.List.{length-reverse}
use Rattle.zq_spread.proofs.Turned.{book_stands}
use Rattle.zq_spread.proofs.lending_all.book_at.Goals as goal
use Rattle.zq_spread.specs.declared.locked_heap.LockedHeap.{LockedHeap}

pub returns : goal.returns
returns c =
    let items = c.args.holds.now.helds.items in
    let low = c.requires in
    let long = length-reverse items in
    let within : c.args.place < length items = omega (arith, low, long) in
    book_stands items c.args.place (length c.as_slice.result.now) c.index.result.now (ap length c.as_slice.ensures.value) within c.index.ensures ∙ ap (λ (v : LockedHeap). Some v.book) (sym c.value.ensures)

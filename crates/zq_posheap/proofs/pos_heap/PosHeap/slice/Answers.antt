use Rattle.std.proofs.Common.{ap, arith, sym, ◌∙◌}
use Rattle.std.specs.Prelude.{drop, length, map, min, take, ◌<◌, ◌≤◌}
use Rattle.zq_posheap.specs.Listing.{lent_pair}
use Rattle.zq_posheap.specs.Members.{scores_of}
use Rattle.zq_posheap.proofs.Firsts.{one_length}
use Rattle.zq_posheap.proofs.Slices.{drop_of_take, nothing_past, slice_is, take_least}
use Rattle.zq_posheap.proofs.pos_heap.PosHeap.slice.Goals as goal

pub returns-then-from-to : goal.returns-then-from-to
returns-then-from-to g c = λ pairs order.
    let past : min c.args.to (length pairs) ≤ c.args.from = omega (arith, c.if-from-to.true) in
    ap (map lent_pair) c.new.ensures.items ∙ sym (nothing_past pairs c.args.from c.args.to past)

pub returns-then-from-len : goal.returns-then-from-len
returns-then-from-len g c = λ pairs order.
    let all = c.in_ok-pairs.pairs.items in
    let firsts = c.in_ok-firsts.firsts in
    let long = one_length (scores_of c.args.self.now.held) all c.in_ok-pairs.ensures pairs order in
    let past : min c.args.to (length pairs) ≤ c.args.from = omega (arith, long, c.in_ok-firsts.ensures.len, c.if-from-len.true, c.len.ensures, firsts.ok.0) in
    ap (map lent_pair) c.new-then-from-len.ensures.items ∙ sym (nothing_past pairs c.args.from c.args.to past)

pub returns : goal.returns
returns g c = λ pairs order.
    let scores = scores_of c.args.self.now.held in
    let all = c.in_ok-pairs.pairs.items in
    let from = c.args.from in
    let to = c.args.to in
    let lower : from < to = omega (arith, c.if-from-to.false) in
    slice_is scores all c.in_ok-firsts.firsts.items c.in_ok-slice.slice.items c.sort_unstable.new.self.items _ from c.in_ok-pairs.ensures c.in_ok-firsts.ensures c.in_ok-slice.ensures
    c.sort_unstable.ensures.permutation c.sort_unstable.ensures.sorted pairs order
    ∙ ap (λ n. drop from (take (min to n) pairs)) (one_length scores all c.in_ok-pairs.ensures pairs order) ∙ ap (drop from) (take_least pairs to)
    ∙ drop_of_take pairs from to lower

use Rattle.std.proofs.Common.{ap, arith, drop, get_or, set, subst, sym, take, ◌+◌, ◌++◌, ◌∙◌, ◌∷◌, ◌≡◌}
use Rattle.std.proofs.lemmas.List.{length-take, take_more}
use Rattle.std.specs.Prelude.{[]}
use Rattle.zq_journal.specs.Books.{state_of}
use Rattle.zq_spread.proofs.InTurn.{IsUnderWay, all_left, goes_on, next_left, parts, rest_left, taken_so_far}
use Rattle.zq_spread.proofs.locked_heap.LockedHeap.take_all.Goals as goal
use Rattle.zq_spread.specs.Batches.{IsNotTaken}
use Rattle.zq_spread.specs.declared.locked_heap.LockedHeap.{LockedHeap}

pub returns-in-Err-clause-worked : goal.returns-in-Err-clause-worked
returns-in-Err-clause-worked c = λ a begun.
    let ops = c.args.ops.now in
    let i = c.loop-op.op-index in
    let is = c.loop-op.invariant in
    let x = get_or c.loop-op.ops i c.op-item.result in
    let at : x ≡ get_or ops i x = next_left ops c.loop-op.ops i c.op-item.result is.3 ∙ ap (λ d. get_or ops i d) c.op-item.is in
    let same = c.in-Err.ensures.refused in
    let done = subst (λ (v : LockedHeap). IsUnderWay c.args.stamp (take i ops) c.args.self.now.book v.book) (sym same) is.2 in
    let end = subst (λ (v : LockedHeap). IsNotTaken c.in-Err.end x (state_of v.book) v.book.count) (sym same) c.in-Err.ensures.end in
    let counted = done.count in
    taken_so_far c.args.stamp ops (take i ops) (x ∷ drop (i + 1) ops) c.args.self.now.book c.take_next.new.self.book a _ done
    (parts ops i x c.loop-op-test.true at) (let short = length-take i ops in omega (arith, is.1, short, c.loop-op-test.true))
    (omega (arith, c.count.ensures.same, c.count-before.ensures.same, counted)) end begun

-- what it did not take was written as it was
pub returns-in-Err-clause-left : goal.returns-in-Err-clause-left
returns-in-Err-clause-left c =
    let ops = c.args.ops.now in
    let i = c.loop-op.op-index in
    let is = c.loop-op.invariant in
    let y = c.take_next.new.op in
    let kept = c.in-Err.ensures.kept in
    ap (λ n. drop n (set c.loop-op.ops i y)) is.1
    ∙ all_left ops c.loop-op.ops i y is.3 (kept ∙ ap (λ d. get_or c.loop-op.ops i d) (c.op-item.is ∙ sym kept))
    ∙ ap (λ n. drop n ops) (sym is.1)

pub returns-clause-left : goal.returns-clause-left
returns-clause-left c =
    let is = c.loop-op.invariant in
    ap (λ n. drop n c.loop-op.ops) is.1 ∙ is.3 ∙ ap (λ n. drop n c.args.ops.now) (sym is.1)

pub loop-op-preserved : goal.loop-op-preserved
loop-op-preserved c =
    let ops = c.args.ops.now in
    let i = c.loop-op.op-index in
    let is = c.loop-op.invariant in
    let x = get_or c.loop-op.ops i c.op-item.result in
    let at : x ≡ get_or ops i x = next_left ops c.loop-op.ops i c.op-item.result is.3 ∙ ap (λ d. get_or ops i d) c.op-item.is in
    let more : take (i + 1) ops ≡ take i ops ++ x ∷ [] = take_more ops i x c.loop-op-test.true ∙ ap (λ y. take i ops ++ y ∷ []) (sym at) in (
      c.take_next.ensures.total ∙ is.0,
      omega (arith, is.1),
      subst (λ l. IsUnderWay c.args.stamp l c.args.self.now.book c.take_next.new.self.book) (sym more)
          (goes_on c.args.stamp (take i ops) x c.args.self.now.book c.loop-op.self.book c.take_next.new.self.book is.2 c.in_default.ensures.taken),
      rest_left ops c.loop-op.ops i c.take_next.new.op is.3,
    )

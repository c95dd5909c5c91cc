use Rattle.zq_replica.proofs.Asked.{asked_again}
use Rattle.zq_replica.proofs.Judged.{fenced_so, free_more, free_so}
use Rattle.zq_replica.specs.Told.{told_by_piece}
use Rattle.zq_replica.proofs.replica.Replica.fences_by_piece.Goals as goal

pub returns-then-branch-clause-judged : goal.returns-then-branch-clause-judged
returns-then-branch-clause-judged g c = (
  c.loop-heap.heap,
  fenced_so c.args.peer c.loop-heap.heap c.told_by_piece-known.result
      (λ own heaps heap. told_by_piece own heaps heap c.args.piece.now) c.args.node.now c.loop-heap.node
      c.fences.new.node c.args.self.now c.loop-heap.self c.fences.new.self
      c.in_ok-fences.field-0 c.if-branch.true c.loop-heap.invariant.same
      c.told_by_piece-known.ensures c.loop-heap.invariant.shows c.in_ok-fences.ensures.judged,
)

pub loop-heap-preserved : goal.loop-heap-preserved
loop-heap-preserved g c =
    let free = free_so c.args.peer c.loop-heap.heap c.told_by_piece-known.result
    (λ own heaps heap. told_by_piece own heaps heap c.args.piece.now) c.loop-heap.node c.fences.new.node c.args.self.now
    c.loop-heap.self c.fences.new.self c.in_ok-fences.field-0 c.if-branch.false
    c.loop-heap.invariant.same c.told_by_piece-known.ensures c.in_ok-fences.ensures.judged in
    record {
      node = c.fences.ensures.node;
      shows = asked_again c.args.node.now c.loop-heap.node c.fences.new.node
          c.loop-heap.invariant.shows c.fences.ensures.shows;
      same = free.0;
      free = free_more c.args.self.now.own
          (λ heap. told_by_piece c.args.self.now.own c.args.self.now.heaps heap c.args.piece.now)
          c.args.node.now c.loop-heap.node c.fences.new.node c.loop-heap.heap
          c.loop-heap.invariant.free c.loop-heap.invariant.shows c.fences.ensures.shows free.1;
    }

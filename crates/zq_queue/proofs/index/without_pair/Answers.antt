use Rattle.std.proofs.Common.{subst, sym}
use Rattle.std.proofs.lemmas.Int.{to_z-of_z}
use Rattle.std.specs.Int.{w128}
use Rattle.zq_posheap.specs.InOrder.{ListsInOrder}
use Rattle.zq_queue.proofs.Indexes.{taken_in_order}
use Rattle.zq_queue.specs.Indexed.{IsIndexOf}
use Rattle.zq_queue.proofs.index.without_pair.Goals as goal

pub returns : goal.returns
returns c = λ scores some order.
    let same = to_z-of_z w128 c.args.score c.ranges.score in
    let taken = rw same at c.remove-taken.ensures.taken in
    let present = rw same at c.remove-taken.ensures.present in
    taken_in_order scores c.args.member.now c.args.score _ (subst (ListsInOrder scores) (sym c.deref_mut.ensures.value) (subst (IsIndexOf scores) c.in_ok-pairs.was order)) some c.remove-taken.result c.remove-taken.new.self taken present

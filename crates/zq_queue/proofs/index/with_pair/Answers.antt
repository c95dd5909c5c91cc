use Rattle.std.proofs.Common.{subst, sym}
use Rattle.std.proofs.lemmas.Int.{to_z-of_z}
use Rattle.std.specs.Int.{w128}
use Rattle.zq_posheap.specs.InOrder.{ListsInOrder}
use Rattle.zq_queue.proofs.Indexes.{put_in_order}
use Rattle.zq_queue.specs.Indexed.{IsIndexOf}
use Rattle.zq_queue.proofs.index.with_pair.Goals as goal

pub returns-in-Ok : goal.returns-in-Ok
returns-in-Ok c = λ scores none order.
    let same = to_z-of_z w128 c.args.score c.ranges.score in
    let put = rw same at c.in-Ok.ensures.put in
    let absent = rw same at c.in-Ok.ensures.absent in
    put_in_order scores c.args.member.now c.args.score _ (subst (ListsInOrder scores) (sym c.deref_mut.ensures.value) (subst (IsIndexOf scores) c.in_ok-pairs.was order)) none c.in-Ok.field-0 c.insert.new.self put absent

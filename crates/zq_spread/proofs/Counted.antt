-- A heap after a call, once the call's steps are counted.

use Rattle.std.proofs.Common.{ap, arith, subst, sym, ◌∙◌}
use Rattle.std.specs.Prelude.{IfSome, IsSome, None, Option, Some, ◌+◌, ◌≡◌}
use Rattle.zq_model.proofs.Reached.{worked_reaches}
use Rattle.zq_model.specs.Reach.{IsWorked}
use Rattle.zq_spread.specs.LockedHeaps.{Follows}
use Rattle.zq_spread.specs.HeapSlots.{IsCountedUp, IsOf, IsWorkedOn}
use Rattle.zq_spread.specs.declared.locked_heap.LockedHeap.{LockedHeap}
use Rattle.zq_spread.specs.declared.heap_slot.HeapSlot.{HeapSlot}
use Rattle.zq_ticketlock.specs.Steps.{FollowsSeen}
use Rattle.zq_tally.specs.Words.{kept_of, total_of, total_table}

-- what holds of a value that is there, and gives something else of it
pub if_some : {A : Type 0} {P Q : A → Type 0} (o : Option A) → ((x : A) → P x → Q x) → IfSome o P → IfSome o Q
if_some (Some x) gives is = gives x is
if_some None gives is = tt

pub counted_follows : (slot : HeapSlot) (now old found : LockedHeap) → IsCountedUp slot now old → IsWorkedOn slot old found → Follows now found
counted_follows slot now old found counted is =
    let worked : IsWorked now.book found.book is.stamp is.steps = subst (λ b. IsWorked b found.book is.stamp is.steps) (sym counted.book) is.worked in
    let same : old.total ≡ found.total = is.total in
    let count : now.book.count ≡ slot.opening + total_of now.total = ap (λ b. b.count) counted.book ∙ sym counted.count in
    let before : found.book.count ≡ slot.opening + total_of found.total = is.of.count in (
      (is.steps, worked_reaches now.book found.book is.stamp is.steps worked is.later),
      (counted.table ∙ ap total_table same, counted.parts ∙ ap kept_of same, omega (arith, count, before)),
    )

pub counted_of : (slot : HeapSlot) (now old found : LockedHeap) → IsCountedUp slot now old → IsWorkedOn slot old found → IsOf slot now
counted_of slot now old found counted is =
    record {
      heap = ap (λ b. b.heap) counted.book ∙ is.worked.heap ∙ is.of.heap;
      heaps = ap (λ b. b.heaps) counted.book ∙ is.worked.heaps ∙ is.of.heaps;
      rule = ap (λ b. b.rule) counted.book ∙ is.worked.rule ∙ is.of.rule;
      table = counted.table ∙ ap total_table is.total ∙ is.of.table;
      parts = counted.parts ∙ ap kept_of is.total ∙ is.of.parts;
      count = ap (λ b. b.count) counted.book ∙ sym counted.count;
    }

-- a value that follows one of this heap is of this heap
of_followed : (slot : HeapSlot) (x y : LockedHeap) → Follows x y → IsOf slot y → IsOf slot x
of_followed slot x y follows is = record {
  heap = follows.0.1.heap ∙ is.heap;
  heaps = follows.0.1.heaps ∙ is.heaps;
  rule = follows.0.1.rule ∙ is.rule;
  table = follows.1.0 ∙ is.table;
  parts = follows.1.1 ∙ is.parts;
  count = let grown = follows.1.2 in let before = is.count in omega (arith, grown, before);
}

-- and so is one that follows what a seat of this heap has seen
pub of_seen : (slot : HeapSlot) (x : LockedHeap) (o : Option LockedHeap) → IsSome o → FollowsSeen Follows x o → IfSome o (IsOf slot) → IsOf slot x
of_seen slot x (Some y) some follows is = of_followed slot x y follows is
of_seen slot x None some follows is = absurd (cc)

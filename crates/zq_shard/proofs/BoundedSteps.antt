-- What a heap's bounds say of an operation that is new to it, and what keeps them.

use Rattle.std.proofs.Common.{List, arith, length, subst, sym, true, ℕ, ◌∙◌, ◌+◌, ◌<◌, ◌≡◌, ◌≤◌}
use Rattle.std.proofs.lemmas.Bool.Decides.{nat_tests}
use Rattle.std.specs.Prelude.{slice_index, ◌*◌, ◌-◌}
use Rattle.zq_dots.specs.Placed.{IsRanged, LONGEST, Placed}
use Rattle.zq_entry.specs.Within.{AreSumsWithin}
use Rattle.zq_model.proofs.BoundedImages.{bounded_step}
use Rattle.zq_model.proofs.Bounds.{within_more}
use Rattle.zq_model.proofs.Taken.{covers_from, taken_from, taken_new}
use Rattle.zq_model.specs.Bounded.{IsBounded}
use Rattle.zq_model.specs.Image.{entry_at, image_after, place_of}
use Rattle.zq_model.specs.Operation.{IsAct, MOST, Operation}
use Rattle.zq_model.specs.Sets.{IsCounters, IsHeaps, IsOperation, LAST, New, SITES, covers, taken_of}
use Rattle.zq_shard.specs.Shard.{HeapImage, IsHeapImage, IsOfHeap}

-- an operation of this heap
pub is_operation : (s : HeapImage) (p : Placed) → IsRanged p → IsOfHeap s p → IsOperation s.heaps p.operation
is_operation s p sound here = record {
  heaps = subst IsHeaps here.heaps sound.heaps;
  act = sound.act;
  heap = here.heap ∙ sym here.placed;
  site = sound.site;
  seen = sound.seen;
  next = sound.next;
  bounded = sound.bounded;
}

-- an operation of this heap whose parts are in range
pub is_ranged : (s : HeapImage) (p : Placed) → IsHeapImage s → IsOfHeap s p → p.operation.site < SITES → IsCounters p.operation.seen →
    p.operation.n ≡ slice_index p.operation.seen p.operation.site + 1 → p.operation.n ≤ LAST → length p.operation.key ≤ LONGEST →
    length p.operation.member ≤ LONGEST → IsAct p.operation.act → IsRanged p
is_ranged s p is here site seen next bounded key member act = record {
  heaps = subst IsHeaps (sym here.heaps) is.heaps;
  heap = subst (λ h. h < p.heaps) (sym here.heap) (subst (λ count. s.heap < count) (sym here.heaps) is.heap);
  site = site;
  seen = seen;
  next = next;
  bounded = bounded;
  key = key;
  member = member;
  act = act;
}

-- what is new keeps the bounds
pub new_bounded : (s : HeapImage) (p : Placed) → IsHeapImage s → IsRanged p → IsOfHeap s p → taken_of s.image.vector p.operation ≡ New →
    IsBounded s.heaps s.heap (image_after p.operation s.image)
new_bounded s p is sound here new =
    subst (λ h. IsBounded s.heaps h (image_after p.operation s.image)) here.heap
    (bounded_step s.heaps p.operation s.image (subst (λ h. IsBounded s.heaps h s.image) (sym here.heap) is.bounded) (is_operation s p sound here)
    (record { key = sound.key; member = sound.member }) new)

-- the vector has a lower counter of the site of what is new
new_above : (v : List ℕ) (o : Operation) → 0 < o.n → taken_of v o ≡ New → slice_index v o.site < o.n
new_above v o some new = let unknown = (taken_new v o new).0 in search (arith, nat_tests)

-- there is room for its increment
pub new_has_room : (s : HeapImage) (p : Placed) → IsHeapImage s → IsRanged p → taken_of s.image.vector p.operation ≡ New →
    AreSumsWithin p.operation.site (MOST * (p.operation.n - 1)) (entry_at s.image.members (place_of p.operation))
new_has_room s p is sound new = λ t a there.
    let o = p.operation in
    let above : slice_index s.image.vector o.site < o.n = new_above s.image.vector o (omega (arith, sound.next)) new in
    within_more (MOST * slice_index s.image.vector o.site) (MOST * (o.n - 1)) _ (omega (arith, above))
    ((is.bounded.additions o.key o.member t a there).sums o.site sound.site)

-- an operation that has seen just what the vector has, and whose counter is the next, is new
pub next_new : (v : List ℕ) (o : Operation) → o.seen ≡ v → o.n ≡ slice_index v o.site + 1 → taken_of v o ≡ New
next_new v o seen next =
    taken_from v o (let above : slice_index v o.site < o.n = omega (arith, next) in search (arith, nat_tests))
    (subst (λ u. covers v u ≡ true) (sym seen) (covers_from v v (λ t below. omega arith)))

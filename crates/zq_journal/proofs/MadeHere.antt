-- What a site makes next, and what it takes that is new to it, are changes that can come.

use Rattle.std.proofs.Common.{List, length, refl, subst, sym, ℕ, ◌∙◌, ◌≡◌}
use Rattle.std.specs.Prelude.{true}
use Rattle.zq_dots.specs.Placed.{IsRanged, Placed}
use Rattle.zq_model.proofs.NewRecords.{change_from}
use Rattle.zq_model.specs.Books.{Made, Took, is_change_over}
use Rattle.zq_model.proofs.Places.{bytes_same}
use Rattle.zq_model.proofs.Taken.{taken_new}
use Rattle.zq_model.specs.Heaps.{heap_of}
use Rattle.zq_model.specs.Operation.{Act}
use Rattle.zq_model.specs.Sets.{IsHeaps, IsOperation, New, SITES, taken_of}
use Rattle.zq_shard.specs.Shard.{HeapImage, next_operation}

-- an operation with its numbers in range, which lies in a heap, of K, as its member's hash says
operation_of : (K h : ℕ) (p : Placed) → p.heaps ≡ K → p.operation.heap ≡ h → heap_of p.operation.key p.operation.member K ≡ h → IsRanged p → IsOperation K p.operation
operation_of K h p heaps heap placed sound = record {
  heaps = subst IsHeaps heaps sound.heaps;
  act = sound.act;
  heap = heap ∙ sym placed;
  site = sound.site;
  seen = sound.seen;
  next = sound.next;
  bounded = sound.bounded;
}

pub next_over : (s : HeapImage) (site : ℕ) (key member : List ℕ) (act : Act) → heap_of key member s.heaps ≡ s.heap → IsRanged (next_operation s site key member act) →
    is_change_over s.heaps s.heap s.image.vector (Made (next_operation s site key member act).operation) ≡ true
next_over s site key member act home sound =
    let p : Placed = next_operation s site key member act in
    change_from s.heaps s.heap s.image.vector (Made p.operation) sound.seen.wide refl (operation_of s.heaps s.heap p refl refl home sound) (bytes_same s.image.vector s.image.vector refl)

pub took_over : (K h : ℕ) (v : List ℕ) (p : Placed) → p.heaps ≡ K → p.operation.heap ≡ h → heap_of p.operation.key p.operation.member K ≡ h → length v ≡ SITES → IsRanged p →
    taken_of v p.operation ≡ New → is_change_over K h v (Took p.operation) ≡ true
took_over K h v p heaps heap placed wide sound new =
    let parts = taken_new v p.operation new in
    change_from K h v (Took p.operation) wide heap (operation_of K h p heaps heap placed sound) (rw (parts.0, parts.1) refl)

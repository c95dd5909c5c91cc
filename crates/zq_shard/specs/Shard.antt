-- One heap of a site.

use Rattle.std.specs.Coded.{Coded, code_by, coded×, coded_ℕ}
use Rattle.std.specs.Prelude.{List, [], refl, ℕ, ◌<◌, ◌≡◌, ◌∷◌}
use Rattle.zq_dots.specs.Placed.{Placed}
use Rattle.zq_model.specs.Bounded.{IsBounded}
use Rattle.zq_model.specs.Codes.{image_code}
use Rattle.zq_model.specs.Heaps.{heap_of}
use Rattle.zq_model.specs.Image.{Entry, Image, Place, image_of, put_entry}
use Rattle.zq_model.specs.Meaning.{IsQueue, Scored}
use Rattle.zq_model.specs.Operation.{Act, Operation, operation_over}
use Rattle.zq_model.specs.Queue.{queue_of}
use Rattle.zq_model.specs.Rule.{Rule}
use Rattle.zq_model.specs.Sets.{IsClosed, IsHeaps, IsWorld}
use Rattle.zq_queue.specs.Codes.{rule_code}

-- a heap, the number of heaps of its site, the rule of its scores, and the image in it
pub record HeapImage : Type 0 where
  pub heap : ℕ
  pub heaps : ℕ
  pub rule : Rule
  pub image : Image

abbrev pub heap_image_code : Coded HeapImage
heap_image_code =
    code_by (ℕ × (ℕ × (Rule × Image)))
    (coded× coded_ℕ (coded× coded_ℕ (coded× rule_code image_code)))
    (λ s. (s.heap, (s.heaps, (s.rule, s.image))))
    (λ p. record { heap = p.0; heaps = p.1.0; rule = p.1.1.0; image = p.1.1.1 }) (λ _. refl)

-- its numbers are in range, and its image keeps the bounds
pub record IsHeapImage (s : HeapImage) : Type 0 where
  pub heaps : IsHeaps s.heaps
  pub heap : s.heap < s.heaps
  pub bounded : IsBounded s.heaps s.heap s.image

-- the two are the same heap of as many heaps
pub record IsSameHeap (s t : HeapImage) : Type 0 where
  pub heap : s.heap ≡ t.heap
  pub heaps : s.heaps ≡ t.heaps

-- the next operation of a site: it has seen what the heap has
abbrev pub next_operation : HeapImage → ℕ → List ℕ → List ℕ → Act → Placed
next_operation s site key member act =
    record { heaps = s.heaps; operation = operation_over s.heap s.image.vector site key member act }

-- the heap has the image of this closed set of operations
pub record HoldsImage (s : HeapImage) (S : List Operation) : Type 0 where
  pub world : IsWorld s.heaps S
  pub closed : IsClosed S
  pub image : s.image ≡ image_of S s.heap

-- the operation was made among as many heaps as this one, and lies in it
pub record IsOfHeap (s : HeapImage) (p : Placed) : Type 0 where
  pub heap : p.operation.heap ≡ s.heap
  pub heaps : p.heaps ≡ s.heaps
  pub placed : heap_of p.operation.key p.operation.member s.heaps ≡ s.heap

-- the queue of a key in this heap
abbrev pub queue_at : HeapImage → List ℕ → List Scored
queue_at s key = queue_of s.rule key (s.image.members ∷ [])

-- the heap has the image of this closed set, and q is what the set means by the queue of the key in
-- this heap
pub record IsMeant (s : HeapImage) (S : List Operation) (key : List ℕ) (q : List Scored) : Type 0
  where
    pub holds : HoldsImage s S
    pub queue : IsQueue s.rule s.heaps S key (s.heap ∷ []) q

-- the image where the member has this entry
abbrev pub with_entry : Place → Entry → Image → Image
with_entry place entry a = record { vector = a.vector; members = put_entry a.members place entry }

-- the members of the image, with another vector
abbrev pub with_vector : List ℕ → Image → Image
with_vector vector a = record { vector = vector; members = a.members }

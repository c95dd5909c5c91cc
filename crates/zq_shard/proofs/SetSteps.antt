-- A heap that holds the image of a closed set, and one more operation.

use Rattle.std.proofs.Common.{List, [], ap, ap₂, inl, inr, subst, sym, ◌∙◌, ◌∷◌, ◌++◌, ◌≡◌}
use Rattle.zq_dots.specs.Placed.{IsRanged, Placed}
use Rattle.zq_model.proofs.Made.{making_closed, making_image, making_world}
use Rattle.zq_model.proofs.NewOperation.{closed_after, new_has_seen}
use Rattle.zq_model.proofs.Same.{image_of-same}
use Rattle.zq_model.proofs.StepImages.{image_of-step}
use Rattle.zq_model.proofs.Taken.{known_here, taken_known, taking_new}
use Rattle.zq_model.proofs.Worlds.{closed_union, vector_is}
use Rattle.zq_model.proofs.JoinImages.{join-union}
use Rattle.zq_model.specs.Image.{empty_image, image_after, image_of, join}
use Rattle.zq_model.specs.Operation.{Operation}
use Rattle.zq_model.specs.Sets.{AreSame, IsHeaps, IsIn, IsMade, IsNew, IsVector, IsWorld, Known, New, taken_of, vector_of}
use Rattle.zq_shard.specs.Shard.{HeapImage, HoldsImage, IsOfHeap, IsSameHeap}

made : (s : HeapImage) (p : Placed) (S : List Operation) → IsRanged p → IsOfHeap s p → p.operation.seen ≡ s.image.vector → HoldsImage s S → IsMade s.heaps S p.operation
made s p S sound here seen holds = record {
  heaps = subst IsHeaps here.heaps sound.heaps;
  act = sound.act;
  site = sound.site;
  heap = here.heap ∙ sym here.placed;
  seen = seen ∙ ap (λ a. a.vector) holds.image ∙ ap (vector_of S) (sym here.heap);
  n = sound.next;
  bounded = sound.bounded;
}

-- the image after an operation of the heap, from that of the set
stepped : (s t : HeapImage) (o : Operation) (S : List Operation) → o.heap ≡ s.heap → t.heap ≡ s.heap → t.image ≡ image_after o s.image → HoldsImage s S →
    image_of (o ∷ S) o.heap ≡ image_after o (image_of S o.heap) → t.image ≡ image_of (o ∷ S) t.heap
stepped s t o S here same after holds is =
    after ∙ ap (image_after o) (holds.image ∙ ap (image_of S) (sym here)) ∙ sym is ∙ ap (image_of (o ∷ S)) (here ∙ sym same)

-- what the site makes joins the set
pub made_holds : (s t : HeapImage) (p : Placed) (S : List Operation) → IsRanged p → IsOfHeap s p → p.operation.seen ≡ s.image.vector →
    t.heap ≡ s.heap → t.heaps ≡ s.heaps → t.image ≡ image_after p.operation s.image → HoldsImage s S → HoldsImage t (p.operation ∷ S)
made_holds s t p S sound here seen heap heaps after holds =
    let is : IsMade s.heaps S p.operation = made s p S sound here seen holds in
    record {
      world = subst (λ K. IsWorld K (p.operation ∷ S)) (sym heaps) (making_world s.heaps S p.operation holds.world holds.closed is);
      closed = making_closed s.heaps S p.operation holds.world holds.closed is;
      image = stepped s t p.operation S here.heap heap after holds (making_image s.heaps S p.operation holds.world holds.closed is);
    }

holds_vector : (s : HeapImage) (o : Operation) (S : List Operation) → o.heap ≡ s.heap → HoldsImage s S → IsVector s.image.vector S o.heap
holds_vector s o S here holds =
    subst (λ v. IsVector v S o.heap) (ap (vector_of S) here ∙ sym (ap (λ a. a.vector) holds.image)) (vector_is s.heaps S o.heap holds.world)

-- what is new joins the set
pub new_holds : (s t : HeapImage) (o : Operation) (S : List Operation) → o.heap ≡ s.heap → t.heap ≡ s.heap → t.heaps ≡ s.heaps →
    t.image ≡ image_after o s.image → taken_of s.image.vector o ≡ New → HoldsImage s S → IsWorld s.heaps (o ∷ S) → HoldsImage t (o ∷ S)
new_holds s t o S here heap heaps after answer holds world =
    let new : IsNew S o = taking_new s.heaps S o s.image.vector world holds.closed (holds_vector s o S here holds) answer in
    record {
      world = subst (λ K. IsWorld K (o ∷ S)) (sym heaps) world;
      closed = closed_after S o holds.closed (new_has_seen s.heaps S o holds.world holds.closed new);
      image = stepped s t o S here heap after holds (image_of-step s.heaps S o world holds.closed new);
    }

more_is_same : (o : Operation) (S : List Operation) → IsIn o S → AreSame S (o ∷ S)
more_is_same o S i = record {
  forth = λ p j. inr j;
  back = λ p j. elim j [ inl e ↦ subst (λ x. IsIn x S) e i | inr there ↦ there ];
}

-- what is known is in the set
pub known_holds : (s : HeapImage) (o : Operation) (S : List Operation) → o.heap ≡ s.heap → taken_of s.image.vector o ≡ Known → HoldsImage s S → IsWorld s.heaps (o ∷ S) → HoldsImage s (o ∷ S)
known_holds s o S here answer holds world =
    let i : IsIn o S = known_here s.heaps S o s.image.vector world holds.closed (holds_vector s o S here holds) (taken_known s.image.vector o answer) in
    record {
      world = world;
      closed = closed_after S o holds.closed (holds.closed.before o i);
      image = holds.image ∙ image_of-same s.heaps S (o ∷ S) s.heap (more_is_same o S i) holds.world;
    }

-- the join has the union of the sets
pub merged_holds : (s t u : HeapImage) (S T : List Operation) → IsSameHeap s t → u.heap ≡ s.heap → u.heaps ≡ s.heaps → u.image ≡ join s.image t.image →
    HoldsImage s S → HoldsImage t T → IsWorld s.heaps (S ++ T) → HoldsImage u (S ++ T)
merged_holds s t u S T same heap heaps joined first second world = record {
  world = subst (λ K. IsWorld K (S ++ T)) (sym heaps) world;
  closed = closed_union S T first.closed second.closed;
  image = joined ∙ ap₂ join first.image (second.image ∙ ap (image_of T) (sym same.heap)) ∙ join-union s.heaps S T s.heap world first.closed second.closed ∙ ap (image_of (S ++ T)) (sym heap);
}

-- a heap that has taken nothing
pub nothing_held : (s : HeapImage) → s.image ≡ empty_image → HoldsImage s []
nothing_held s is = record {
  world = record { each = λ o i. absurd i; one = λ o p i. absurd i };
  closed = record { before = λ o i. absurd i };
  image = is;
}

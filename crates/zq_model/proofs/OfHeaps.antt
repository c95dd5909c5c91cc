-- The operations of one heap in a set.

use Rattle.std.proofs.Common.{List, [], ap, cond, eq-eqb, eqb-true, false, inl, inr, refl, subst, sym, true, true≢false, ℕ, ◌==◌, ◌∙◌, ◌∷◌, ◌≡◌}
use Rattle.zq_model.proofs.Same.{image_of-same_heap}
use Rattle.zq_model.proofs.Worlds.{world_part}
use Rattle.zq_model.specs.Image.{image_of}
use Rattle.zq_model.specs.Operation.{Operation}
use Rattle.zq_model.specs.Sets.{HasDot, IsClosed, IsIn, IsWorld, in_heap}

-- a set with more of one heap has the same image in other heaps
pub image_elsewhere : (K : ℕ) (S T : List Operation) (heap h : ℕ) → IsWorld K T → (h == heap) ≡ false → ((o : Operation) → IsIn o S → IsIn o T) →
    ((o : Operation) → IsIn o T → o.heap ≡ h → IsIn o S) → image_of S h ≡ image_of T h
image_elsewhere K S T heap h world apart forth back = image_of-same_heap K S T h (world_part K S T forth world) world (λ o i _. forth o i) back

pub of_heap : (heap : ℕ) (S : List Operation) (o : Operation) → IsIn o (in_heap heap S) → IsIn o S × (o.heap ≡ heap)
of_heap heap [] o i = absurd i
of_heap heap (p ∷ S) o i =
    elim (p.heap == heap) as (λ b. (p.heap == heap) ≡ b → IsIn o (cond b (p ∷ in_heap heap S) (in_heap heap S)) → IsIn o (p ∷ S) × (o.heap ≡ heap)) [
      | true ↦ λ e j. elim j [
        | inl same ↦ (inl same, subst (λ q. q.heap ≡ heap) same (eqb-true p.heap heap e))
        | inr there ↦ let rest : IsIn o S × (o.heap ≡ heap) = of_heap heap S o there in (inr rest.0, rest.1)
      ]
      | false ↦ λ e j. let rest : IsIn o S × (o.heap ≡ heap) = of_heap heap S o j in (inr rest.0, rest.1)
    ] refl i

pub in_heap_too : (heap : ℕ) (S : List Operation) (o : Operation) → IsIn o S → o.heap ≡ heap → IsIn o (in_heap heap S)
in_heap_too heap [] o i here = absurd i
in_heap_too heap (p ∷ S) o i here =
    elim (p.heap == heap) as (λ b. (p.heap == heap) ≡ b → IsIn o (cond b (p ∷ in_heap heap S) (in_heap heap S))) [
      | true ↦ λ e. elim i [ inl same ↦ inl same | inr there ↦ inr (in_heap_too heap S o there here) ]
      | false ↦ λ e. elim i [
        | inl same ↦ absurd (true≢false (sym (eq-eqb p.heap heap (ap (λ q. q.heap) same ∙ here)) ∙ e))
        | inr there ↦ in_heap_too heap S o there here
      ]
    ] refl

pub in_heap_closed : (heap : ℕ) (S : List Operation) → IsClosed S → IsClosed (in_heap heap S)
in_heap_closed heap S closed = record {
  before = λ o i s n known.
      let parts = of_heap heap S o i in
      let dot : HasDot S o.heap s n = closed.before o parts.0 s n known in
      (dot.0, in_heap_too heap S dot.0 dot.1 (dot.2 ∙ parts.1), dot.2, dot.3, dot.4);
}

-- the operations of the heap have the set's image there
pub in_heap_image : (K heap : ℕ) (S : List Operation) → IsWorld K S → image_of S heap ≡ image_of (in_heap heap S) heap
in_heap_image K heap S world =
    image_of-same_heap K S (in_heap heap S) heap world (world_part K (in_heap heap S) S (λ o i. (of_heap heap S o i).0) world)
    (λ o i here. in_heap_too heap S o i here) (λ o i _. (of_heap heap S o i).0)

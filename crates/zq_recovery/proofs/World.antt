-- What a site makes that has its own operations again.

use Rattle.std.proofs.Common.{List, ap, arith, inl, inr, subst, sym, ℕ, ◌++◌, ◌<◌, ◌∙◌, ◌∷◌, ◌≡◌, ◌≤◌}
use Rattle.zq_model.proofs.Dots.{last_above}
use Rattle.zq_model.proofs.Made.{made_new, made_operation, making_closed}
use Rattle.zq_model.proofs.Membership.{in_left, in_union}
use Rattle.zq_model.proofs.Worlds.{closed_union, world_part}
use Rattle.zq_model.specs.Operation.{Operation}
use Rattle.zq_model.specs.Sets.{IsClosed, IsIn, IsMade, IsNew, IsOperation, IsWorld, last}
use Rattle.zq_recovery.specs.Laws.{GoesOn, IsWithin}

module _ (K site : ℕ) (V T : List Operation) (on : GoesOn K site V T) where
  module _ (o : Operation) (is : IsMade K T o) (mine : o.site ≡ site) where
    is_new : IsNew T o
    is_new = made_new K T o (world_part K T V on.within on.world) is

    -- no operation that is left anywhere has its dot
    unused : (p : Operation) → IsIn p V → p.heap ≡ o.heap → p.site ≡ o.site → p.n ≡ o.n → ⊥
    unused p i heaps sites counters =
        let here : IsIn p T = on.own p i (sites ∙ mine) in
        let inside : p.n ≤ last T o.heap o.site = last_above T o.heap o.site p here heaps sites in
        let fresh : last T o.heap o.site < o.n = is_new.fresh in omega arith

    pub makes : GoesOn K site (o ∷ V) (o ∷ T)
    makes = record {
      world = record {
        each = λ p i. elim i [
          | inl e ↦ subst (IsOperation K) e (made_operation K T o (world_part K T V on.within on.world) is)
          | inr j ↦ on.world.each p j
        ];
        one = λ p q i j a b c. elim i [
          | inl e ↦ elim j [
            | inl f ↦ sym e ∙ f
            | inr q_in ↦ absurd (unused q q_in (sym (ap (λ x. x.heap) e ∙ a)) (sym (ap (λ x. x.site) e ∙ b)) (sym (ap (λ x. x.n) e ∙ c)))
          ]
          | inr p_in ↦ elim j [
            | inl f ↦ absurd (unused p p_in (a ∙ sym (ap (λ x. x.heap) f)) (b ∙ sym (ap (λ x. x.site) f)) (c ∙ sym (ap (λ x. x.n) f)))
            | inr q_in ↦ on.world.one p q p_in q_in a b c
          ]
        ];
      };
      within = λ p i. elim i [ inl e ↦ inl e | inr j ↦ inr (on.within p j) ];
      closed = making_closed K T o (world_part K T V on.within on.world) on.closed is;
      own = λ p i s. elim i [ inl e ↦ inl e | inr j ↦ inr (on.own p j s) ];
    }

  pub merges : (U : List Operation) → IsWithin U V → IsClosed U → GoesOn K site V (T ++ U)
  merges U inside closed = record {
    world = on.world;
    within = λ p i. elim (in_union p T U i) [ inl j ↦ on.within p j | inr j ↦ inside p j ];
    closed = closed_union T U on.closed closed;
    own = λ p i s. in_left p T U (on.own p i s);
  }

  pub others : (o : Operation) → IsWorld K (o ∷ V) → (o.site ≡ site → ⊥) → GoesOn K site (o ∷ V) T
  others o world other = record {
    world = world;
    within = λ p i. inr (on.within p i);
    closed = on.closed;
    own = λ p i s. elim i [ inl e ↦ absurd (other (ap (λ x. x.site) e ∙ s)) | inr j ↦ on.own p j s ];
  }

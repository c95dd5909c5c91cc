-- What every state of a world keeps, under each change of it.

use Rattle.std.proofs.Common.{List, [], ap, arith, cond, eq-eqb, eqb-true, false, inl, inr, refl, subst, sym, true, true≢false, ℕ, ◌++◌, ◌<◌, ◌==◌, ◌∙◌, ◌∷◌, ◌≡◌, ◌≤◌, ◌⊎◌}
use Rattle.zq_model.proofs.Dots.{last_above}
use Rattle.zq_model.proofs.Made.{made_new, made_operation, making_closed}
use Rattle.zq_model.proofs.Membership.{in_left, in_right, in_union}
use Rattle.zq_model.proofs.NewOperation.{closed_after, new_has_seen}
use Rattle.zq_model.proofs.OfHeaps.{in_heap_closed, of_heap}
use Rattle.zq_model.proofs.Taken.{taking_new}
use Rattle.zq_model.proofs.Worlds.{closed_union, vector_is, world_part}
use Rattle.zq_model.specs.Bounded.{HasShortNames}
use Rattle.zq_model.specs.Operation.{Operation}
use Rattle.zq_model.specs.Sets.{IsClosed, IsIn, IsMade, IsNew, IsOperation, IsWorld, New, in_heap, last, taken_of, vector_of}
use Rattle.zq_semantics.specs.State.{Sets, State, after_making, counted, with_at}

-- what holds of each value holds where one is new
pub at_each : {X : Type 0} (P : ℕ → X → Type 0) (f : ℕ → X) (i : ℕ) (x : X) → ((j : ℕ) → P j (f j)) → P i x → (j : ℕ) → P j (with_at f i x j)
at_each P f i x old new j =
    elim (j == i) as (λ b. (j == i) ≡ b → P j (cond b x (f j))) [
      | true ↦ λ e. subst (λ t. P t x) (sym (eqb-true j i e)) new
      | false ↦ λ e. old j
    ] refl

-- each site has a closed set of what was made
pub record AreOf (W : List Operation) (sets : Sets) : Type 0 where
  pub within : (s : ℕ) (o : Operation) → IsIn o (sets s) → IsIn o W
  pub closed : (s : ℕ) → IsClosed (sets s)

-- what was made is of one world and has short names, each site has its own, and now and before each site had a closed set of it
pub record IsKept (K : ℕ) (past : List Sets) (st : State) : Type 0 where
  pub world : IsWorld K st.made
  pub short : (o : Operation) → IsIn o st.made → HasShortNames o
  pub own : (o : Operation) → IsIn o st.made → IsIn o (st.sets o.site)
  pub now : AreOf st.made st.sets
  pub before : (sets : Sets) → IsIn sets past → AreOf st.made sets

pub are_more : (V W : List Operation) (sets : Sets) → ((o : Operation) → IsIn o V → IsIn o W) → AreOf V sets → AreOf W sets
are_more V W sets more are = record { within = λ s o i. more o (are.within s o i); closed = are.closed }

-- one of the sites gets another set
pub are_with : (W : List Operation) (sets : Sets) (site : ℕ) (S : List Operation) → AreOf W sets → ((o : Operation) → IsIn o S → IsIn o W) → IsClosed S →
    AreOf W (with_at sets site S)
are_with W sets site S are inside closed = record {
  within = at_each (λ s T. (o : Operation) → IsIn o T → IsIn o W) sets site S are.within inside;
  closed = at_each (λ s T. IsClosed T) sets site S are.closed closed;
}

-- what stands in a list with one more behind it
in_pushed : (p o : Operation) (W : List Operation) → IsIn p (W ++ o ∷ []) → IsIn p W ⊎ (o ≡ p)
in_pushed p o W i = elim (in_union p W (o ∷ []) i) [
  | inl j ↦ inl j
  | inr j ↦ elim j [ inl e ↦ inr e | inr none ↦ absurd none ]
]

pushed : (o : Operation) (W : List Operation) → IsIn o (W ++ o ∷ [])
pushed o W = in_right o W (o ∷ []) (inl refl)

module _ (K : ℕ) (past : List Sets) (st : State) (kept : IsKept K past st) where
  pub world_of : (s : ℕ) → IsWorld K (st.sets s)
  world_of s = world_part K (st.sets s) st.made (kept.now.within s) kept.world

  -- ---- an operation that is made
  module _ (stamp : ℕ) (o : Operation) (is : IsMade K (st.sets o.site) o) (short : HasShortNames o) where
    is_new : IsNew (st.sets o.site) o
    is_new = made_new K (st.sets o.site) o (world_of o.site) is

    -- none that was made has its dot
    unused : (p : Operation) → IsIn p st.made → p.heap ≡ o.heap → p.site ≡ o.site → p.n ≡ o.n → ⊥
    unused p i heaps sites counters =
        let mine : IsIn p (st.sets o.site) = subst (λ t. IsIn p (st.sets t)) sites (kept.own p i) in
        let inside : p.n ≤ last (st.sets o.site) o.heap o.site = last_above (st.sets o.site) o.heap o.site p mine heaps sites in
        let fresh : last (st.sets o.site) o.heap o.site < o.n = is_new.fresh in omega arith

    world_with : IsWorld K (st.made ++ o ∷ [])
    world_with = record {
      each = λ p i. elim (in_pushed p o st.made i) [
        | inl j ↦ kept.world.each p j
        | inr e ↦ subst (IsOperation K) e (made_operation K (st.sets o.site) o (world_of o.site) is)
      ];
      one = λ p q i j a b c. elim (in_pushed p o st.made i) [
        | inl p_in ↦ elim (in_pushed q o st.made j) [
          | inl q_in ↦ kept.world.one p q p_in q_in a b c
          | inr f ↦ absurd (unused p p_in (a ∙ sym (ap (λ x. x.heap) f)) (b ∙ sym (ap (λ x. x.site) f)) (c ∙ sym (ap (λ x. x.n) f)))
        ]
        | inr e ↦ elim (in_pushed q o st.made j) [
          | inl q_in ↦ absurd (unused q q_in (sym (ap (λ x. x.heap) e ∙ a)) (sym (ap (λ x. x.site) e ∙ b)) (sym (ap (λ x. x.n) e ∙ c)))
          | inr f ↦ sym e ∙ f
        ]
      ];
    }

    short_with : (p : Operation) → IsIn p (st.made ++ o ∷ []) → HasShortNames p
    short_with p i = elim (in_pushed p o st.made i) [ inl j ↦ kept.short p j | inr e ↦ subst HasShortNames e short ]

    within_with : (p : Operation) → IsIn p (o ∷ st.sets o.site) → IsIn p (st.made ++ o ∷ [])
    within_with p i = elim i [
      | inl e ↦ subst (λ q. IsIn q (st.made ++ o ∷ [])) e (pushed o st.made)
      | inr j ↦ in_left p st.made (o ∷ []) (kept.now.within o.site p j)
    ]

    own_with : (p : Operation) → IsIn p (st.made ++ o ∷ []) → IsIn p (with_at st.sets o.site (o ∷ st.sets o.site) p.site)
    own_with p i =
        elim (p.site == o.site) as (λ b. (p.site == o.site) ≡ b → IsIn p (cond b (o ∷ st.sets o.site) (st.sets p.site))) [
          | true ↦ λ e. elim (in_pushed p o st.made i) [
            | inl j ↦ inr (subst (λ t. IsIn p (st.sets t)) (eqb-true p.site o.site e) (kept.own p j))
            | inr f ↦ inl f
          ]
          | false ↦ λ e. elim (in_pushed p o st.made i) [
            | inl j ↦ kept.own p j
            | inr f ↦ absurd (true≢false (sym (eq-eqb p.site o.site (sym (ap (λ x. x.site) f))) ∙ e))
          ]
        ] refl

    pub making_kept : IsKept K past (after_making st stamp o)
    making_kept =
        let more = λ (p : Operation) (j : IsIn p st.made). in_left p st.made (o ∷ []) j in
        record {
          world = world_with;
          short = short_with;
          own = own_with;
          now = are_with (st.made ++ o ∷ []) st.sets o.site (o ∷ st.sets o.site) (are_more st.made (st.made ++ o ∷ []) st.sets more kept.now) within_with
              (making_closed K (st.sets o.site) o (world_of o.site) (kept.now.closed o.site) is);
          before = λ sets i. are_more st.made (st.made ++ o ∷ []) sets more (kept.before sets i);
        }

  -- ---- a site that has more of what was made
  module _ (site heap stamp : ℕ) (S : List Operation) (inside : (o : Operation) → IsIn o S → IsIn o st.made) (closed : IsClosed S)
      (more : (o : Operation) → IsIn o (st.sets site) → IsIn o S) where
    pub more_kept : IsKept K past (counted st site heap stamp st.made S)
    more_kept = record {
      world = kept.world;
      short = kept.short;
      own = λ o i. at_each (λ s T. IsIn o (st.sets s) → IsIn o T) st.sets site S (λ s j. j) (more o) o.site (kept.own o i);
      now = are_with st.made st.sets site S kept.now inside closed;
      before = kept.before;
    }

  -- an operation that is new to the site
  pub taking_kept : (site heap stamp : ℕ) (o : Operation) → IsIn o st.made → taken_of (vector_of (st.sets site) o.heap) o ≡ New →
      IsKept K past (counted st site heap stamp st.made (o ∷ st.sets site))
  taking_kept site heap stamp o i is =
      let inside = λ (p : Operation) (j : IsIn p (o ∷ st.sets site)). elim j as (λ _. IsIn p st.made) [ inl e ↦ subst (λ x. IsIn x st.made) e i | inr there ↦ kept.now.within site p there ] in
      let together = world_part K (o ∷ st.sets site) st.made inside kept.world in
      let new = taking_new K (st.sets site) o (vector_of (st.sets site) o.heap) together (kept.now.closed site) (vector_is K (st.sets site) o.heap (world_of site)) is in
      more_kept site heap stamp (o ∷ st.sets site) inside
      (closed_after (st.sets site) o (kept.now.closed site) (new_has_seen K (st.sets site) o (world_of site) (kept.now.closed site) new)) (λ p j. inr j)

  -- what a site had of one heap
  pub merging_kept : (site heap stamp : ℕ) (T : List Operation) → ((o : Operation) → IsIn o T → IsIn o st.made) → IsClosed T →
      IsKept K past (counted st site heap stamp st.made (st.sets site ++ in_heap heap T))
  merging_kept site heap stamp T inside closed =
      more_kept site heap stamp (st.sets site ++ in_heap heap T)
      (λ o i. elim (in_union o (st.sets site) (in_heap heap T) i) [ inl j ↦ kept.now.within site o j | inr j ↦ inside o (of_heap heap T o j).0 ])
      (closed_union (st.sets site) (in_heap heap T) (kept.now.closed site) (in_heap_closed heap T closed))
      (λ o i. in_left o (st.sets site) (in_heap heap T) i)

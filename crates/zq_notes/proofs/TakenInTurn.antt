-- The sets that a site has as it takes operations in turn.

use Rattle.std.proofs.Common.{ap, arith, inl, inr, refl, subst, sym, ◌∙◌}
use Rattle.std.specs.Prelude.{List, [], true, ℕ, ◌++◌, ◌∷◌, ◌≡◌, ◌≤◌}
use Rattle.zq_dots.specs.Placed.{Placed}
use Rattle.zq_journal.specs.Books.{steps_when}
use Rattle.zq_model.proofs.Dots.{counter_positive, dots_below, has_parts}
use Rattle.zq_model.proofs.Membership.{in_left, in_right, in_union}
use Rattle.zq_model.proofs.NewOperation.{closed_after, new_has_seen}
use Rattle.zq_model.proofs.TailSets.{step_in_heap, taken_is_new}
use Rattle.zq_model.proofs.Taken.{taken_known}
use Rattle.zq_model.proofs.Worlds.{vector_is, world_part}
use Rattle.zq_model.specs.Books.{Step}
use Rattle.zq_model.specs.Image.{Image, image_after, image_of, image_when}
use Rattle.zq_model.specs.Operation.{Operation, has}
use Rattle.zq_model.specs.Sets.{AreSame, Early, HasDot, IsClosed, IsIn, IsNew, IsWorld, Known, New, Taken, last, taken_of, vector_of}
use Rattle.zq_notes.proofs.MadeWorlds.{gathered_stays}
use Rattle.zq_notes.specs.Gathered.{AreOf, brought, gathered_in}
use Rattle.zq_shard.specs.Shard.{HeapImage, IsOfHeap}
use Rattle.zq_spread.specs.Batches.{AreTaken, heap_after, judged_at, steps_of_all}

-- ---- what steps gather

pub in_turn : (W : List Operation) (h : ℕ) (xs ys : List Step) (S : List Operation) → gathered_in W h (xs ++ ys) S ≡ gathered_in W h ys (gathered_in W h xs S)
in_turn W h [] ys S = refl
in_turn W h (s ∷ xs) ys S = in_turn W h xs ys (brought W h s ++ S)

same_more : (A S T : List Operation) → AreSame S T → AreSame (A ++ S) (A ++ T)
same_more A S T same = record {
  forth = λ o i. elim (in_union o A S i) [ inl j ↦ in_left o A T j | inr j ↦ in_right o A T (same.forth o j) ];
  back = λ o i. elim (in_union o A T i) [ inl j ↦ in_left o A S j | inr j ↦ in_right o A S (same.back o j) ];
}

pub gathers_alike : (W : List Operation) (h : ℕ) (steps : List Step) (S T : List Operation) → AreSame S T → AreSame (gathered_in W h steps S) (gathered_in W h steps T)
gathers_alike W h [] S T same = same
gathers_alike W h (s ∷ steps) S T same = gathers_alike W h steps (brought W h s ++ S) (brought W h s ++ T) (same_more (brought W h s) S T same)

of_parts : (W : List Operation) (h : ℕ) (xs ys : List Step) → AreOf W h (xs ++ ys) → AreOf W h xs × AreOf W h ys
of_parts W h [] ys of = (tt, of)
of_parts W h (s ∷ xs) ys of = let rest = of_parts W h xs ys of.1 in ((of.0, rest.0), rest.1)

new_of : (W : List Operation) (h stamp : ℕ) (o : Operation) (t : Taken) → AreOf W h (steps_when t stamp o) → t ≡ New → IsIn o W
new_of W h stamp o New of is = of.0
new_of W h stamp o Known of is = absurd (cc)
new_of W h stamp o Early of is = absurd (cc)

module _ (K : ℕ) (W : List Operation) (world : IsWorld K W) where
  -- an operation of the world that is no later than the last of its site is in a closed set
  pub known_in : (S : List Operation) → ((p : Operation) → IsIn p S → IsIn p W) → IsClosed S → (o : Operation) → IsIn o W → o.n ≤ last S o.heap o.site → IsIn o S
  known_in S within closed o i low =
      let dot : HasDot S o.heap o.site o.n = dots_below K S o.heap o.site o.n (world_part K S W within world) closed (counter_positive K W o world i) low in
      subst (λ x. IsIn x S) (world.one dot.0 o (within dot.0 dot.1) i dot.2 dot.3 dot.4) dot.1

  pub known_at : (S : List Operation) → ((p : Operation) → IsIn p S → IsIn p W) → IsClosed S → (o : Operation) → IsIn o W → has (vector_of S o.heap) o.site o.n ≡ true → IsIn o S
  known_at S within closed o i known =
      let parts = has_parts (vector_of S o.heap) o.site o.n known in
      let counter = (vector_is K S o.heap (world_part K S W within world)).counter o.site in
      known_in S within closed o i (omega (arith, parts.1, counter))

  module _ (h : ℕ) where
    -- the heap is the image of the set, a closed one of the world
    pub record IsSetOf (T : List Operation) (x : HeapImage) : Type 0 where
      pub within : (o : Operation) → IsIn o T → IsIn o W
      pub closed : IsClosed T
      pub image : image_of T h ≡ x.image
      pub heap : x.heap ≡ h

    -- so it is after an operation that is handed to it
    pub set_next : (stamp : ℕ) (T : List Operation) (x : HeapImage) (p : Placed) → IsSetOf T x → IsOfHeap x p → (judged_at x p ≡ New → IsIn p.operation W) →
        IsSetOf (gathered_in W h (steps_when (judged_at x p) stamp p.operation) T) (heap_after p x)
    set_next stamp T x p is of here = by (judged_at x p) refl
      where
        by : (t : Taken) → judged_at x p ≡ t → IsSetOf (gathered_in W h (steps_when t stamp p.operation) T) (record { heap = x.heap; heaps = x.heaps; rule = x.rule; image = image_when t p.operation x.image })
        by New judged =
            let o : Operation = p.operation in
            let at : o.heap ≡ h = of.heap ∙ is.heap in
            let more : (q : Operation) → IsIn q (o ∷ T) → IsIn q W = λ q j. elim j [ inl e ↦ subst (λ y. IsIn y W) e (here judged) | inr k ↦ is.within q k ] in
            let inner : IsWorld K (o ∷ T) = world_part K (o ∷ T) W more world in
            let part : IsWorld K T = world_part K T W is.within world in
            let new : IsNew T o = taken_is_new K h T o inner is.closed at (ap (λ (a : Image). taken_of a.vector o) is.image ∙ judged) in
            record {
              within = more;
              closed = closed_after T o is.closed (new_has_seen K T o part is.closed new);
              image = step_in_heap K h T o inner is.closed new at ∙ ap (image_after o) is.image;
              heap = is.heap;
            }
        by Known judged = record { within = is.within; closed = is.closed; image = is.image; heap = is.heap }
        by Early judged = record { within = is.within; closed = is.closed; image = is.image; heap = is.heap }

    -- each that is taken is in the set after all
    pub taken_in : (stamp : ℕ) (ops : List Placed) (T : List Operation) (x : HeapImage) → IsSetOf T x → AreTaken ops x → AreOf W h (steps_of_all stamp ops x) →
        (p : Placed) → IsIn p ops → IsIn p.operation W → IsIn p.operation (gathered_in W h (steps_of_all stamp ops x) T)
    taken_in stamp [] T x is are of p here i = absurd here
    taken_in stamp (y ∷ ops) T x is are of p here i =
        let first = steps_when (judged_at x y) stamp y.operation in
        let rest = steps_of_all stamp ops (heap_after y x) in
        let both = of_parts W h first rest of in
        let U : List Operation = gathered_in W h first T in
        let new : judged_at x y ≡ New → IsIn y.operation W = new_of W h stamp y.operation (judged_at x y) both.0 in
        let next = set_next stamp T x y is are.0 new in
        subst (IsIn p.operation) (sym (in_turn W h first rest T)) (elim here [
          | inl same ↦ gathered_stays W h p.operation rest U (subst (λ (q : Placed). IsIn q.operation U) same (by (judged_at x y) refl (subst (λ (q : Placed). IsIn q.operation W) (sym same) i)))
          | inr later ↦ taken_in stamp ops U (heap_after y x) next are.2 both.1 p later i
        ])
      where
        by : (t : Taken) → judged_at x y ≡ t → IsIn y.operation W → IsIn y.operation (gathered_in W h (steps_when t stamp y.operation) T)
        by New judged inside = inl refl
        by Known judged inside =
            let at : y.operation.heap ≡ h = are.0.heap ∙ is.heap in
            let known : has (vector_of T h) y.operation.site y.operation.n ≡ true = ap (λ (a : Image). has a.vector y.operation.site y.operation.n) is.image ∙ taken_known x.image.vector y.operation judged in
            known_at T is.within is.closed y.operation inside (subst (λ k. has (vector_of T k) y.operation.site y.operation.n ≡ true) (sym at) known)
        by Early judged inside = absurd (are.1 judged)

-- The sets that calls gather, and the images of these.

use Rattle.std.proofs.Common.{ap, arith, eq-eqb, inl, inr, subst, sym, true≢false, ◌∙◌}
use Rattle.std.proofs.lemmas.Bool.{and_parts, cases_Bool, eqb-true}
use Rattle.std.specs.Prelude.{List, [], refl, slice_index, true, ℕ, ◌++◌, ◌&&◌, ◌==◌, ◌∷◌, ◌≡◌}
use Rattle.zq_model.proofs.NewRecords.{change_is_new}
use Rattle.zq_model.proofs.Works.{worked_is}
use Rattle.zq_model.specs.Books.{Book, HandedOn, Merged, Recorded, Step, TookOver, are_steps_over, is_change_over, is_step_over, operation_of, steps_image}
use Rattle.zq_model.specs.Reach.{after_step, after_steps, begun, worked}
use Rattle.zq_model.proofs.CatchingUp.{peer_catches_up}
use Rattle.zq_model.proofs.Dots.{counter_positive, dots_below, has_from, has_parts, last_above}
use Rattle.zq_model.proofs.JoinImages.{join-union}
use Rattle.zq_model.proofs.Membership.{in_left, in_right, in_union}
use Rattle.zq_model.proofs.NewOperation.{closed_after, new_has_seen}
use Rattle.zq_model.proofs.Same.{image_of-same, image_of-same_heap}
use Rattle.zq_model.proofs.TailSets.{step_in_heap, taken_is_new}
use Rattle.zq_model.proofs.Worlds.{closed_union, union_turned, vector_is, world_part}
use Rattle.zq_model.specs.Image.{Image, image_after, image_of, join}
use Rattle.zq_model.specs.Operation.{Operation, has}
use Rattle.zq_model.specs.Rule.{Rule}
use Rattle.zq_model.specs.Sets.{HasDot, IsClosed, IsIn, IsNew, IsWorld, covers, last, vector_of}
use Rattle.zq_model.proofs.Lists.{in_filter, in_filter_from}
use Rattle.zq_notes.proofs.OneThread.{left_alone, own_same}
use Rattle.zq_notes.proofs.Tails.{tail_begun, tail_merged, tail_recorded, tail_taken_over, tail_wider}
use Rattle.zq_notes.specs.Gathered.{AreImagesOf, AreOf, AreOfIn, HasImageOf, HasTailOf, IsOf, covered_by, gathered_by, gathered_in}
use Rattle.zq_notes.specs.Notes.{Books}
use Rattle.zq_notes.specs.Thread.{AreOwn, AreOwnIn, left_in}

-- no heap stands in the list twice
abbrev pub AreOnce : List ℕ → Type 0
AreOnce [] = Unit {0}
AreOnce (h ∷ heaps) = (IsIn h heaps → ⊥) × AreOnce heaps

not_there : (h k : ℕ) (heaps : List ℕ) → (IsIn h heaps → ⊥) → IsIn k heaps → IsIn k (h ∷ []) → ⊥
not_there h k heaps out i (inl same) = out (subst (λ x. IsIn x heaps) (sym same) i)
not_there h k heaps out i (inr none) = none

-- what the set after steps in the heap h is
pub record IsGrown (W : List Operation) (h : ℕ) (S T : List Operation) (a : Image) : Type 0 where
  pub within : (o : Operation) → IsIn o T → IsIn o W
  pub closed : IsClosed T
  pub here : image_of T h ≡ a
  pub others : (k : ℕ) → (k ≡ h → ⊥) → image_of T k ≡ image_of S k
  pub more : (o : Operation) → IsIn o S → IsIn o T
  pub apart : (o : Operation) → IsIn o T → (o.heap ≡ h → ⊥) → IsIn o S

module _ (K : ℕ) (W : List Operation) (world : IsWorld K W) where
  -- ---- what an image covers

  pub covered_parts : (h : ℕ) (a : Image) (o : Operation) → IsIn o (covered_by W h a) → IsIn o W × (o.heap ≡ h) × (has a.vector o.site o.n ≡ true)
  covered_parts h a o i =
      let from = in_filter_from (λ p. (p.heap == h) && has a.vector p.site p.n) W o i in
      let both : ((o.heap == h) ≡ true) × (has a.vector o.site o.n ≡ true) = and_parts _ _ from.1 in
      (from.0, eqb-true o.heap h both.0, both.1)

  covered_from : (h : ℕ) (a : Image) (o : Operation) → IsIn o W → o.heap ≡ h → has a.vector o.site o.n ≡ true → IsIn o (covered_by W h a)
  covered_from h a o i here known = in_filter (λ p. (p.heap == h) && has a.vector p.site p.n) W o i (rw (eq-eqb o.heap h here, known) refl)

  module _ (h : ℕ) (U : List Operation) (closed : IsClosed U) (inside : (o : Operation) → IsIn o U → IsIn o W) where
    part : IsWorld K U
    part = world_part K U W inside world

    -- the image of a closed set covers that set, in its heap, and nothing else
    pub covered_is : (o : Operation) → IsIn o (covered_by W h (image_of U h)) → IsIn o U
    covered_is o i =
        let parts = covered_parts h (image_of U h) o i in
        let known = has_parts (vector_of U h) o.site o.n parts.2 in
        let counter : slice_index (vector_of U h) o.site ≡ last U h o.site = (vector_is K U h part).counter o.site in
        let dot : HasDot U h o.site o.n = dots_below K U h o.site o.n part closed known.0 (omega (arith, known.1, counter)) in
        subst (λ x. IsIn x U) (world.one dot.0 o (inside dot.0 dot.1) parts.0 (dot.2 ∙ sym parts.1) dot.3 dot.4) dot.1

    pub covers_it : (o : Operation) → IsIn o U → o.heap ≡ h → IsIn o (covered_by W h (image_of U h))
    covers_it o i here =
        let counter : slice_index (vector_of U h) o.site ≡ last U h o.site = (vector_is K U h part).counter o.site in
        let below = last_above U h o.site o i here refl in
        covered_from h (image_of U h) o (inside o i) here (has_from (vector_of U h) o.site o.n (counter_positive K U o part i) (omega (arith, counter, below)))

    covered_closed : IsClosed (covered_by W h (image_of U h))
    covered_closed = record {
      before = λ o i s n known.
          let at : o.heap ≡ h = (covered_parts h (image_of U h) o i).1 in
          let dot : HasDot U o.heap s n = closed.before o (covered_is o i) s n known in
          (dot.0, covers_it dot.0 dot.1 (dot.2 ∙ at), dot.2, dot.3, dot.4);
    }

    -- so gathering it is joining the image
    covered_grows : (S : List Operation) → ((o : Operation) → IsIn o S → IsIn o W) → IsClosed S → IsGrown W h S (covered_by W h (image_of U h) ++ S) (join (image_of S h) (image_of U h))
    covered_grows S within closed_S =
        let C : List Operation = covered_by W h (image_of U h) in
        let all : (o : Operation) → IsIn o (C ++ S) → IsIn o W = λ o i. elim (in_union o C S i) [ inl j ↦ (covered_parts h (image_of U h) o j).0 | inr j ↦ within o j ] in
        let both : (o : Operation) → IsIn o (S ++ U) → IsIn o W = λ o i. elim (in_union o S U i) [ inl j ↦ within o j | inr j ↦ inside o j ] in
        let w1 : IsWorld K (C ++ S) = world_part K (C ++ S) W all world in
        let w2 : IsWorld K (S ++ U) = world_part K (S ++ U) W both world in
        record {
          within = all;
          closed = closed_union C S covered_closed closed_S;
          here =
              image_of-same_heap K (C ++ S) (S ++ U) h w1 w2
              (λ o i at. elim (in_union o C S i) [ inl j ↦ in_right o S U (covered_is o j) | inr j ↦ in_left o S U j ])
              (λ o i at. elim (in_union o S U i) [ inl j ↦ in_right o C S j | inr j ↦ in_left o C S (covers_it o j at) ])
              ∙ sym (join-union K S U h w2 closed_S closed);
          others = λ k apart.
              image_of-same_heap K (C ++ S) S k w1 (world_part K S W within world)
              (λ o i at. elim (in_union o C S i) [ inl j ↦ absurd (apart (sym at ∙ (covered_parts h (image_of U h) o j).1)) | inr j ↦ j ])
              (λ o i at. in_right o C S i);
          more = λ o i. in_right o C S i;
          apart = λ o i away. elim (in_union o C S i) [ inl j ↦ absurd (away (covered_parts h (image_of U h) o j).1) | inr j ↦ j ];
        }

  -- ---- steps in a heap

  recorded_grows : (h : ℕ) (S : List Operation) (o : Operation) → ((p : Operation) → IsIn p S → IsIn p W) → IsClosed S → IsIn o W → o.heap ≡ h → IsNew S o →
      IsGrown W h S (o ∷ S) (image_after o (image_of S h))
  recorded_grows h S o within closed i at new =
      let more : (p : Operation) → IsIn p (o ∷ S) → IsIn p W = λ p j. elim j [ inl e ↦ subst (λ x. IsIn x W) e i | inr k ↦ within p k ] in
      let inner : IsWorld K (o ∷ S) = world_part K (o ∷ S) W more world in
      let part : IsWorld K S = world_part K S W within world in
      record {
        within = more;
        closed = closed_after S o closed (new_has_seen K S o part closed new);
        here = step_in_heap K h S o inner closed new at;
        others = λ k apart.
            image_of-same_heap K (o ∷ S) S k inner part
            (λ p j there. elim j [ inl e ↦ absurd (apart (sym there ∙ ap (λ (x : Operation). x.heap) (sym e) ∙ at)) | inr there_too ↦ there_too ])
            (λ p j there. inr j);
        more = λ p j. inr j;
        apart = λ p j away. elim j [ inl e ↦ absurd (away (ap (λ (x : Operation). x.heap) (sym e) ∙ at)) | inr k ↦ k ];
      }

  merged_grows : (h : ℕ) (S : List Operation) (stamp : ℕ) (other : Image) → ((o : Operation) → IsIn o S → IsIn o W) → IsClosed S → IsOf W h (Merged stamp other) →
      IsGrown W h S (covered_by W h other ++ S) (join (image_of S h) other)
  merged_grows h S stamp other within closed of =
      subst (λ (a : Image). IsGrown W h S (covered_by W h a ++ S) (join (image_of S h) a)) (sym of.3) (covered_grows h of.0 of.1 of.2 S within closed)

  -- an image whose vector covers that of a set is the join of both
  joined_is : (h : ℕ) (S : List Operation) (stamp : ℕ) (other : Image) → ((o : Operation) → IsIn o S → IsIn o W) → IsClosed S → IsOf W h (TookOver stamp other) →
      covers other.vector (image_of S h).vector ≡ true → join (image_of S h) other ≡ other
  joined_is h S stamp other within closed of covered =
      let U : List Operation = of.0 in
      let both : (o : Operation) → IsIn o (S ++ U) → IsIn o W = λ o i. elim (in_union o S U i) [ inl j ↦ within o j | inr j ↦ of.2 o j ] in
      let joint : IsWorld K (S ++ U) = world_part K (S ++ U) W both world in
      ap (join (image_of S h)) of.3
      ∙ join-union K S U h joint closed of.1
      ∙ image_of-same K (S ++ U) (U ++ S) h (union_turned S U) joint
      ∙ sym (peer_catches_up K h S U [] joint closed of.1 (tt {0}) (subst (λ (a : Image). covers a.vector (image_of S h).vector ≡ true) of.3 covered)).1
      ∙ sym of.3

  taken_over_grows : (h : ℕ) (S : List Operation) (stamp : ℕ) (other : Image) → ((o : Operation) → IsIn o S → IsIn o W) → IsClosed S → IsOf W h (TookOver stamp other) →
      covers other.vector (image_of S h).vector ≡ true → IsGrown W h S (covered_by W h other ++ S) other
  taken_over_grows h S stamp other within closed of covered =
      subst (IsGrown W h S (covered_by W h other ++ S)) (joined_is h S stamp other within closed of covered) (merged_grows h S stamp other within closed of)

  pub grown_in : (h : ℕ) (steps : List Step) (S : List Operation) → ((o : Operation) → IsIn o S → IsIn o W) → IsClosed S → are_steps_over K h (image_of S h) steps ≡ true →
      AreOf W h steps → IsGrown W h S (gathered_in W h steps S) (steps_image steps (image_of S h))
  grown_in h [] S within closed over of = record { within = within; closed = closed; here = refl; others = λ k apart. refl; more = λ o i. i; apart = λ o i away. i }
  grown_in h (Recorded r ∷ steps) S within closed over of =
      let o : Operation = operation_of r.change in
      let both : (is_change_over K h (image_of S h).vector r.change ≡ true) × (are_steps_over K h (image_after o (image_of S h)) steps ≡ true) = and_parts _ _ over in
      let news = change_is_new K h (image_of S h).vector r.change both.0 in
      let more : (p : Operation) → IsIn p (o ∷ S) → IsIn p W = λ p j. elim j [ inl e ↦ subst (λ x. IsIn x W) e of.0 | inr k ↦ within p k ] in
      let new : IsNew S o = taken_is_new K h S o (world_part K (o ∷ S) W more world) closed news.0 news.1 in
      let first = recorded_grows h S o within closed of.0 news.0 new in
      let rest = grown_in h steps (o ∷ S) first.within first.closed (subst (λ a. are_steps_over K h a steps ≡ true) (sym first.here) both.1) of.1 in
      record {
        within = rest.within;
        closed = rest.closed;
        here = rest.here ∙ ap (steps_image steps) first.here;
        others = λ k apart. rest.others k apart ∙ first.others k apart;
        more = λ p i. rest.more p (first.more p i);
        apart = λ p i away. first.apart p (rest.apart p i away) away;
      }
  grown_in h (Merged stamp other ∷ steps) S within closed over of =
      let first = merged_grows h S stamp other within closed of.0 in
      let rest_over : are_steps_over K h (join (image_of S h) other) steps ≡ true = (and_parts _ _ over).1 in
      let rest = grown_in h steps (covered_by W h other ++ S) first.within first.closed (subst (λ a. are_steps_over K h a steps ≡ true) (sym first.here) rest_over) of.1 in
      record {
        within = rest.within;
        closed = rest.closed;
        here = rest.here ∙ ap (steps_image steps) first.here;
        others = λ k apart. rest.others k apart ∙ first.others k apart;
        more = λ p i. rest.more p (first.more p i);
        apart = λ p i away. first.apart p (rest.apart p i away) away;
      }
  grown_in h (HandedOn stamp handed ∷ steps) S within closed over of = grown_in h steps S within closed over of.1
  grown_in h (TookOver stamp other ∷ steps) S within closed over of =
      let both : (is_step_over K h (image_of S h) (TookOver stamp other) ≡ true) × (are_steps_over K h other steps ≡ true) = and_parts _ _ over in
      let first = taken_over_grows h S stamp other within closed of.0 (and_parts _ _ both.0).1 in
      let rest = grown_in h steps (covered_by W h other ++ S) first.within first.closed (subst (λ a. are_steps_over K h a steps ≡ true) (sym first.here) both.1) of.1 in
      record {
        within = rest.within;
        closed = rest.closed;
        here = rest.here ∙ ap (steps_image steps) first.here;
        others = λ k apart. rest.others k apart ∙ first.others k apart;
        more = λ p i. rest.more p (first.more p i);
        apart = λ p i away. first.apart p (rest.apart p i away) away;
      }

  -- the tail is the same where a book is told what was handed on
  tail_handed : (h : ℕ) (S : List Operation) (b : Book) (stamp handed : ℕ) → HasTailOf S h b → HasTailOf S h (after_step (HandedOn stamp handed) b)
  tail_handed h S b stamp handed is = record { start = is.start; within = is.within; closed = is.closed; base = is.base; tailed = is.tailed; told = is.told; all = is.all }

  -- and the tail of a book with the set's image
  tail_grown : (h : ℕ) (steps : List Step) (S : List Operation) (b : Book) → ((o : Operation) → IsIn o S → IsIn o W) → IsClosed S → are_steps_over K h (image_of S h) steps ≡ true →
      AreOf W h steps → b.state ≡ image_of S h → HasTailOf S h b → HasTailOf (gathered_in W h steps S) h (after_steps steps b)
  tail_grown h [] S b within closed over of state is = is
  tail_grown h (Recorded r ∷ steps) S b within closed over of state is =
      let o : Operation = operation_of r.change in
      let both : (is_change_over K h (image_of S h).vector r.change ≡ true) × (are_steps_over K h (image_after o (image_of S h)) steps ≡ true) = and_parts _ _ over in
      let news = change_is_new K h (image_of S h).vector r.change both.0 in
      let more : (p : Operation) → IsIn p (o ∷ S) → IsIn p W = λ p j. elim j [ inl e ↦ subst (λ x. IsIn x W) e of.0 | inr k ↦ within p k ] in
      let new : IsNew S o = taken_is_new K h S o (world_part K (o ∷ S) W more world) closed news.0 news.1 in
      let first = recorded_grows h S o within closed of.0 news.0 new in
      tail_grown h steps (o ∷ S) (after_step (Recorded r) b) first.within first.closed (subst (λ a. are_steps_over K h a steps ≡ true) (sym first.here) both.1) of.1
      (ap (image_after o) state ∙ sym first.here) (tail_recorded K W world h S b r.stamp r.change new news.0 is)
  tail_grown h (Merged stamp other ∷ steps) S b within closed over of state is =
      let first = merged_grows h S stamp other within closed of.0 in
      let rest_over : are_steps_over K h (join (image_of S h) other) steps ≡ true = (and_parts _ _ over).1 in
      tail_grown h steps (covered_by W h other ++ S) (after_step (Merged stamp other) b) first.within first.closed (subst (λ a. are_steps_over K h a steps ≡ true) (sym first.here) rest_over) of.1
      (ap (λ a. join a other) state ∙ sym first.here) (tail_merged K W world h (covered_by W h other ++ S) b stamp other first.closed (ap (λ a. join a other) state ∙ sym first.here))
  tail_grown h (HandedOn stamp handed ∷ steps) S b within closed over of state is =
      tail_grown h steps S (after_step (HandedOn stamp handed) b) within closed over of.1 state (tail_handed h S b stamp handed is)
  tail_grown h (TookOver stamp other ∷ steps) S b within closed over of state is =
      let both : (is_step_over K h (image_of S h) (TookOver stamp other) ≡ true) × (are_steps_over K h other steps ≡ true) = and_parts _ _ over in
      let first = taken_over_grows h S stamp other within closed of.0 (and_parts _ _ both.0).1 in
      tail_grown h steps (covered_by W h other ++ S) (after_step (TookOver stamp other) b) first.within first.closed (subst (λ a. are_steps_over K h a steps ≡ true) (sym first.here) both.1) of.1
      (sym first.here) (tail_taken_over K W world h (covered_by W h other ++ S) b stamp other first.closed (sym first.here))

  -- ---- calls

  module _ (rule : Rule) where
    -- the book of the heap has the image of another set that is the same there
    image_moved : (S T : List Operation) (h : ℕ) (b : Book) → image_of T h ≡ image_of S h → ((o : Operation) → IsIn o S → IsIn o T) → ((o : Operation) → IsIn o T → o.heap ≡ h → IsIn o S) →
        HasImageOf rule K S h b → HasImageOf rule K T h b
    image_moved S T h b same more back is = record { heap = is.heap; heaps = is.heaps; ruled = is.ruled; state = is.state ∙ sym same; tail = tail_wider S T h b more back is.tail }

    image_worked : (stamp : ℕ) (steps : List Step) (S T : List Operation) (h : ℕ) (b : Book) → image_of T h ≡ steps_image steps (image_of S h) → HasTailOf T h (worked stamp steps b) → HasImageOf rule K S h b →
        HasImageOf rule K T h (worked stamp steps b)
    image_worked stamp steps S T h b leads tail is =
        let after = worked_is stamp steps b in
        record { heap = after.heap ∙ is.heap; heaps = after.heaps ∙ is.heaps; ruled = after.rule ∙ is.ruled; state = after.state ∙ ap (steps_image steps) is.state ∙ sym leads; tail = tail }

    -- the steps of one heap, and then those of the others
    first_in : (stamp h k : ℕ) (ss : List Step) (heaps : List ℕ) (steps : List (List Step)) (b : Book) → (IsIn h heaps → ⊥) →
        left_in stamp heaps steps k (left_in stamp (h ∷ []) (ss ∷ []) k b) ≡ left_in stamp (h ∷ heaps) (ss ∷ steps) k b
    first_in stamp h k ss heaps steps b out =
        elim (cases_Bool (h == k)) [
          | inl same ↦ (
              let at : h ≡ k = eqb-true h k same in
              rw same (left_alone stamp heaps steps k (worked stamp ss b) (λ i. out (subst (λ x. IsIn x heaps) (sym at) i))))
          | inr other ↦ rw other refl
        ]

    legal_over : (S : List Operation) (h : ℕ) (b : Book) (stamp : ℕ) (steps : List Step) → HasImageOf rule K S h b → AreOwn stamp b steps → are_steps_over K h (image_of S h) steps ≡ true
    legal_over S h b stamp steps is own =
        subst (λ a. are_steps_over K h a steps ≡ true) is.state
        (subst (λ x. are_steps_over K x b.state steps ≡ true) is.heap (subst (λ n. are_steps_over n b.heap b.state steps ≡ true) is.heaps own.legal))

    pub grown_by : (stamp : ℕ) (heaps : List ℕ) (steps : List (List Step)) (S : List Operation) (books : Books) → AreOnce heaps → AreOwnIn stamp books heaps steps → AreOfIn W heaps steps →
        AreImagesOf rule K W S books → AreImagesOf rule K W (gathered_by W heaps steps S) (λ k. left_in stamp heaps steps k (books k))
    grown_by stamp [] steps S books once own of is = record { within = is.within; closed = is.closed; each = is.each }
    grown_by stamp (h ∷ heaps) [] S books once own of is = absurd own
    grown_by stamp (h ∷ heaps) (ss ∷ steps) S books once own of is =
        let T : List Operation = gathered_in W h ss S in
        let next : Books = λ k. left_in stamp (h ∷ []) (ss ∷ []) k (books k) in
        let first : IsGrown W h S T (steps_image ss (image_of S h)) = grown_in h ss S is.within is.closed (legal_over S h (books h) stamp ss (is.each h) own.0) of.0 in
        let tailed : HasTailOf T h (worked stamp ss (books h)) =
        tail_grown h ss S (begun stamp (books h)) is.within is.closed (legal_over S h (books h) stamp ss (is.each h) own.0) of.0 (is.each h).state
        (tail_begun K W world h S is.within stamp (books h) (is.each h).tail) in
        let then : AreImagesOf rule K W T next = record {
          within = first.within;
          closed = first.closed;
          each = λ k. elim (cases_Bool (h == k)) [
            | inl same ↦ (
                let at : h ≡ k = eqb-true h k same in
                rw same (image_worked stamp ss S T k (books k) (subst (λ x. image_of T x ≡ steps_image ss (image_of S x)) at first.here)
                (subst (λ x. HasTailOf T x (worked stamp ss (books x))) at tailed) (is.each k)))
            | inr other ↦ (
                let away : k ≡ h → ⊥ = λ e. true≢false (sym (eq-eqb h k (sym e)) ∙ other) in
                rw other (image_moved S T k (books k) (first.others k away) first.more (λ o i at. first.apart o i (λ here. away (sym at ∙ here))) (is.each k)))
          ];
        } in
        let rest = grown_by stamp heaps steps T next once.1 (own_same stamp heaps steps books next (λ k i. sym (left_alone stamp (h ∷ []) (ss ∷ []) k (books k) (not_there h k heaps once.0 i))) own.1) of.1 then in
        record {
          within = rest.within;
          closed = rest.closed;
          each = λ k. subst (HasImageOf rule K (gathered_by W heaps steps T) k) (first_in stamp h k ss heaps steps (books k) once.0) (rest.each k);
        }

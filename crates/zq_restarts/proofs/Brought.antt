-- What reaches a site is of operations that are left.

use Rattle.std.proofs.Common.{ap₂, inl, inr, sym, ◌∙◌}
use Rattle.std.proofs.lemmas.List.{append-nil}
use Rattle.std.specs.Prelude.{List, [], refl, ℕ, ◌++◌, ◌∷◌, ◌≡◌}
use Rattle.zq_model.proofs.JoinImages.{join-union}
use Rattle.zq_model.proofs.Membership.{in_union}
use Rattle.zq_model.proofs.OfHeaps.{in_heap_closed, in_heap_image, of_heap}
use Rattle.zq_model.proofs.Worlds.{closed_union, world_part}
use Rattle.zq_model.specs.Books.{Change, HandedOn, Made, Merged, Recorded, Step, Took, TookOver, operation_of}
use Rattle.zq_model.specs.Image.{Image, image_of, join}
use Rattle.zq_model.specs.Operation.{Operation}
use Rattle.zq_model.specs.Rule.{Rule}
use Rattle.zq_model.specs.Sets.{IsClosed, IsIn, in_heap}
use Rattle.zq_notes.proofs.MadeWorlds.{IsMadeIn, IsMadeInAll, in_more_all, made_there_all}
use Rattle.zq_notes.specs.Gathered.{AreOf, AreOfIn}
use Rattle.zq_notes.specs.Sites.{made_by, made_in_all}
use Rattle.zq_restarts.specs.Reached.{AreBrought, AreBroughtIn, IsSent, WasHad}
use Rattle.zq_restarts.specs.Runs.{Happening, State, reached}
use Rattle.zq_restarts.specs.Standing.{IsStanding}

-- the image of a closed set of these operations in the heap
pub record IsImageIn (W : List Operation) (h : ℕ) (a : Image) : Type 0 where
  pub set : List Operation
  pub closed : IsClosed set
  pub within : (o : Operation) → IsIn o set → IsIn o W
  pub image : a ≡ image_of set h

module _ (rule : Rule) (K : ℕ) (opening : State) (before : List Happening) where
  abbrev now : State
  now = reached opening before

  module _ (earlier : (past later : List Happening) → before ≡ past ++ later → IsStanding rule K (reached opening past)) where
    -- what a site had, and of which all is left
    was_had : (h : ℕ) (a : Image) → WasHad opening before h a → IsImageIn now.left h a
    was_had h a was =
        let stood = earlier was.past was.later was.split in
        let its = stood.images was.site in
        let S : List Operation = (reached opening was.past).has was.site in
        record {
          set = in_heap h S;
          closed = in_heap_closed h S its.closed;
          within = λ o i. let parts = of_heap h S o i in was.left o parts.0 parts.1;
          image = was.image ∙ (its.each h).state ∙ in_heap_image K h S (world_part K S (reached opening was.past).left its.within stood.world);
        }

    -- joined with what the site has
    joined : (s h : ℕ) (a other : Image) → IsImageIn now.left h a → other ≡ join (now.books s h).state a → IsImageIn now.left h other
    joined s h a other is same =
        let stands = earlier before [] (sym (append-nil before)) in
        let its = stands.images s in
        let S : List Operation = now.has s in
        let both : (o : Operation) → IsIn o (S ++ is.set) → IsIn o now.left = λ o i. elim (in_union o S is.set i) [ inl j ↦ its.within o j | inr j ↦ is.within o j ] in
        record {
          set = S ++ is.set;
          closed = closed_union S is.set its.closed is.closed;
          within = both;
          image = same ∙ ap₂ join (its.each h).state is.image ∙ join-union K S is.set h (world_part K (S ++ is.set) now.left both stands.world) its.closed is.closed;
        }

    module _ (X : List Operation) (more : (o : Operation) → IsIn o now.left → IsIn o X) where
      of_image : (h : ℕ) (a : Image) → IsImageIn now.left h a → (U : List Operation) × IsClosed U × ((o : Operation) → IsIn o U → IsIn o X) × (a ≡ image_of U h)
      of_image h a is = (is.set, is.closed, (λ o i. more o (is.within o i)), is.image)

      of_change : (c : Change) → ((o : Operation) → IsIn o (made_by c) → IsIn o X) → IsSent now c → IsIn (operation_of c) X
      of_change (Made o) made sent = made o (inl refl)
      of_change (Took o) made sent = more o sent

      of_each : (s h : ℕ) (steps : List Step) → ((o : Operation) → IsMadeIn o steps → IsIn o X) → AreBrought opening before s h steps → AreOf X h steps
      of_each s h [] made brought = tt
      of_each s h (Recorded r ∷ steps) made brought = (of_change r.change (λ o i. made o (inl i)) brought.0, of_each s h steps (λ o i. made o (inr i)) brought.1)
      of_each s h (Merged stamp other ∷ steps) made brought = (of_image h other (was_had h other brought.0), of_each s h steps made brought.1)
      of_each s h (HandedOn stamp handed ∷ steps) made brought = (tt, of_each s h steps made brought.1)
      of_each s h (TookOver stamp other ∷ steps) made brought =
          let from = brought.0 in (of_image h other (joined s h from.0 other (was_had h from.0 from.1) from.2), of_each s h steps made brought.1)

      of_all : (s : ℕ) (heaps : List ℕ) (steps : List (List Step)) → ((o : Operation) → IsMadeInAll o steps → IsIn o X) → AreBroughtIn opening before s heaps steps → AreOfIn X heaps steps
      of_all s [] steps made brought = tt
      of_all s (h ∷ heaps) [] made brought = tt
      of_all s (h ∷ heaps) (ss ∷ steps) made brought = (of_each s h ss (λ o i. made o (inl i)) brought.0, of_all s heaps steps (λ o i. made o (inr i)) brought.1)

    -- so what a call records and merges is of what is left after it
    pub brought_of : (s : ℕ) (heaps : List ℕ) (steps : List (List Step)) → AreBroughtIn opening before s heaps steps → AreOfIn (made_in_all steps now.left) heaps steps
    brought_of s heaps steps brought =
        of_all (made_in_all steps now.left) (λ o i. in_more_all o steps now.left i) s heaps steps (λ o i. made_there_all o steps now.left i) brought

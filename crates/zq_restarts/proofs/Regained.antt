-- A site that begins with what was read of its log has all again that it told.

use Rattle.std.proofs.Common.{ap, arith, inl, inr, subst, suc, sym, zero, ◌∙◌}
use Rattle.std.proofs.lemmas.Bool.{cases_lt}
use Rattle.std.specs.Prelude.{List, [], slice_index, ℕ, ◌++◌, ◌<◌, ◌≡◌, ◌≤◌}
use Rattle.zq_model.proofs.Dots.{counter_positive}
use Rattle.zq_model.proofs.JoinImages.{image_of-nothing}
use Rattle.zq_model.proofs.MeantQueues.{heap_in_range}
use Rattle.zq_model.proofs.Membership.{in_left, in_right, in_union}
use Rattle.zq_model.proofs.OfHeaps.{in_heap_too, of_heap}
use Rattle.zq_model.proofs.Same.{image_of-same_heap}
use Rattle.zq_model.proofs.Worlds.{world_part}
use Rattle.zq_model.specs.Image.{empty_image, image_of}
use Rattle.zq_model.specs.Operation.{Operation}
use Rattle.zq_model.specs.Rule.{Rule}
use Rattle.zq_model.specs.Sets.{HasDot, IsClosed, IsIn, IsWorld, in_heap}
use Rattle.zq_notes.specs.Notes.{Books}
use Rattle.zq_restarts.specs.Reached.{IsBegunWith}
use Rattle.zq_restarts.specs.Regained.{IsReadOver, IsRegainedOver}
use Rattle.zq_restarts.specs.Runs.{State}
use Rattle.zq_restarts.specs.Standing.{IsStanding}
use Rattle.zq_stage.specs.Piece.{Staged}

-- ---- sets of operations by heap, as one

-- those of the heaps below k
gather : (ℕ → List Operation) → ℕ → List Operation
gather sets zero = []
gather sets (suc k) = in_heap k (sets k) ++ gather sets k

gathered_from : (sets : ℕ → List Operation) (k : ℕ) (o : Operation) → IsIn o (gather sets k) → (o.heap < k) × IsIn o (sets o.heap)
unfolding gather
gathered_from sets zero o i = absurd i
gathered_from sets (suc k) o i = elim (in_union o (in_heap k (sets k)) (gather sets k) i) [
  | inl j ↦ (let parts = of_heap k (sets k) o j in let at = parts.1 in (omega (arith, at), subst (λ h. IsIn o (sets h)) (sym parts.1) parts.0))
  | inr j ↦ (let rest = gathered_from sets k o j in let low = rest.0 in (omega (arith, low), rest.1))
]

in_gathered : (sets : ℕ → List Operation) (k : ℕ) (o : Operation) → o.heap < k → IsIn o (sets o.heap) → IsIn o (gather sets k)
unfolding gather
in_gathered sets zero o low i = absurd (omega (arith, low))
in_gathered sets (suc k) o low i = elim (cases_lt o.heap k) [
  | inl lower ↦ in_right o (in_heap k (sets k)) (gather sets k) (in_gathered sets k o lower i)
  | inr last ↦ (
      let at : o.heap ≡ k = omega (arith, low, last) in
      in_left o (in_heap k (sets k)) (gather sets k) (in_heap_too k (sets k) o (subst (λ h. IsIn o (sets h)) at i) at))
]

-- ---- what was read

module _ (rule : Rule) (K : ℕ) (now : State) (site : ℕ) (told : ℕ → List ℕ) (stages : ℕ → Staged) (books : Books) (elsewhere : List Operation) (stands : IsStanding rule K now)
    (is : IsReadOver rule K now site told stages books elsewhere) where
  abbrev had : List Operation
  had = now.has site

  had_left : (o : Operation) → IsIn o had → IsIn o now.left
  had_left = (stands.images site).within

  -- what is known of the operations of a heap
  record Part (h : ℕ) : Type 0 where
    pub set : List Operation
    pub closed : IsClosed set
    pub within : (o : Operation) → IsIn o set → IsIn o had
    pub image : h < K → (stages h).held.image ≡ image_of set h
    pub dots : h < K → (s n : ℕ) → 1 ≤ n → n ≤ slice_index (told h) s → HasDot set h s n

  part : (h : ℕ) → Part h
  part h = elim (cases_lt h K) [
    | inl low ↦ (
        let its = is.read h low in
        let r = its.regained in
        let S : List Operation = r.behind.set in
        let holds = r.holds its.brought in
        record {
          set = S;
          closed = r.closed;
          within = r.within;
          image = λ _. holds.image ∙ ap (image_of S) its.heap;
          dots = λ _. r.has;
        })
    | inr high ↦ record {
      set = [];
      closed = record { before = λ o none. absurd none };
      within = λ o none. absurd none;
      image = λ low. absurd (omega (arith, low, high));
      dots = λ low. absurd (omega (arith, low, high));
    }
  ]

  abbrev sets : ℕ → List Operation
  sets h = (part h).set

  again : List Operation
  again = gather sets K

  again_from : (o : Operation) → IsIn o again → (o.heap < K) × IsIn o (sets o.heap)
  unfolding again
  again_from o i = gathered_from sets K o i

  in_again : (o : Operation) → o.heap < K → IsIn o (sets o.heap) → IsIn o again
  unfolding again
  in_again o low i = in_gathered sets K o low i

  again_had : (o : Operation) → IsIn o again → IsIn o had
  again_had o i = let from = again_from o i in (part o.heap).within o from.1

  again_world : IsWorld K again
  again_world = world_part K again now.left (λ o i. had_left o (again_had o i)) stands.world

  again_closed : IsClosed again
  again_closed = record {
    before = λ o i s n known.
        let from = again_from o i in
        let dot : HasDot (sets o.heap) o.heap s n = (part o.heap).closed.before o from.1 s n known in
        (dot.0, in_again dot.0 (subst (λ h. h < K) (sym dot.2) from.0) (subst (λ h. IsIn dot.0 (sets h)) (sym dot.2) dot.1), dot.2, dot.3, dot.4);
  }

  image_here : (h : ℕ) → h < K → (stages h).held.image ≡ image_of again h
  image_here h low =
      (part h).image low
      ∙ image_of-same_heap K (sets h) again h (world_part K (sets h) now.left (λ o i. had_left o ((part h).within o i)) stands.world) again_world
      (λ o i at. in_again o (subst (λ k. k < K) (sym at) low) (subst (λ k. IsIn o (sets k)) (sym at) i))
      (λ o i at. subst (λ k. IsIn o (sets k)) at (again_from o i).1)

  image_none : (h : ℕ) → K ≤ h → image_of again h ≡ empty_image
  image_none h high = image_of-nothing again h (λ o i at. let low = (again_from o i).0 in absurd (omega (arith, low, high, at)))

  begun : (h : ℕ) → IsBegunWith rule K h (image_of again h) (books h)
  begun h = elim (cases_lt h K) [
    | inl low ↦ subst (λ a. IsBegunWith rule K h a (books h)) (image_here h low) (is.books_are h low)
    | inr high ↦ subst (λ a. IsBegunWith rule K h a (books h)) (sym (image_none h high)) (is.none h high)
  ]

  -- an operation that is left, and was told, is there again
  told_again : (o : Operation) → IsIn o now.left → o.n ≤ slice_index (told o.heap) o.site → IsIn o again
  told_again o i low =
      let its = stands.world.each o i in
      let some = its.heaps.0 in
      let placed : o.heap < K = subst (λ h. h < K) (sym its.heap) (heap_in_range o.key o.member K (omega (arith, some))) in
      let first = counter_positive K now.left o stands.world i in
      let dot : HasDot (sets o.heap) o.heap o.site o.n = (part o.heap).dots placed o.site o.n (omega (arith, first)) low in
      let there : IsIn dot.0 now.left = had_left dot.0 ((part o.heap).within dot.0 dot.1) in
      in_again o placed (subst (λ p. IsIn p (sets o.heap)) (stands.world.one dot.0 o there i dot.2 dot.3 dot.4) dot.1)

  own : (o : Operation) → IsIn o (again ++ elsewhere) → o.site ≡ site → IsIn o again
  own o i mine = elim (in_union o again elsewhere i) [
    | inl j ↦ j
    | inr j ↦ told_again o (is.left o j) (subst (λ s. o.n ≤ slice_index (told o.heap) s) (sym mine) (is.is_told o j mine))
  ]

  pub regained_over : IsRegainedOver rule K now site told books elsewhere
  regained_over = record {
    again = again;
    restarts = record {
      closed = again_closed;
      books = begun;
      left = λ o i. elim (in_union o again elsewhere i) [ inl j ↦ had_left o (again_had o j) | inr j ↦ is.left o j ];
      here = λ o i. in_left o again elsewhere i;
      there = λ s apart o i. in_right o again elsewhere (is.there s apart o i);
      own = own;
    };
    had = again_had;
    has_told = λ o i low. told_again o (had_left o i) low;
  }

-- Procedures that ran one after the other over the images of a set: each is read off the set with what those before it made.

use Rattle.std.proofs.Common.{ap, arith, eq-eqb, inl, inr, subst, sym, true≢false, ◌∙◌}
use Rattle.std.proofs.lemmas.Bool.{and_parts, cases_Bool, eqb-true}
use Rattle.std.specs.Prelude.{List, [], false, if◌then◌else◌, map, refl, slice_index, slice_set, true, ℕ, ◌+◌, ◌++◌, ◌<◌, ◌==◌, ◌∷◌, ◌≡◌}
use Rattle.zq_journal.specs.Books.{step_of}
use Rattle.zq_model.proofs.Made.{made_new, making_closed, making_world}
use Rattle.zq_model.proofs.MeantQueues.{heap_in_range}
use Rattle.zq_model.proofs.Membership.{in_range_with_len}
use Rattle.zq_model.proofs.NewRecords.{change_is}
use Rattle.zq_model.proofs.Same.{image_of-same_heap}
use Rattle.zq_model.proofs.TailSets.{step_in_heap}
use Rattle.zq_model.specs.Books.{Book, Made, Step, are_steps_over, is_change_over}
use Rattle.zq_model.specs.Heaps.{heap_of}
use Rattle.zq_model.specs.Image.{Image, image_after, image_of}
use Rattle.zq_model.specs.Lent.{books_after, is_home, made, made_in, operation_in, queues_of}
use Rattle.zq_model.specs.Moves.{Move, Queues}
use Rattle.zq_model.specs.Operation.{Operation, operation_over}
use Rattle.zq_model.specs.Queue.{queue_of}
use Rattle.zq_model.specs.Rule.{Rule}
use Rattle.zq_model.specs.Sets.{IsClosed, IsIn, IsMade, IsWorld, vector_of}
use Rattle.zq_notes.proofs.EachRun.{AreRunsFrom}
use Rattle.zq_notes.specs.Notes.{Books}
use Rattle.zq_notes.specs.Readings.{AreRunsOf, IsProcedureOver, moved_in, operation_off, with_moves}
use Rattle.zq_notes.specs.Thread.{AreOwn, AreOwnIn}
use Rattle.zq_semantics.specs.Procedures.{Procedure}
use Rattle.zq_semantics.specs.Reading.{heaps_in, queues_over}
use Rattle.zq_words.specs.Words.{Word}

module _ (rule : Rule) (K site stamp : ℕ) (some : 0 < K) where
  -- the books are the images of a closed set of a world
  pub record IsAt (S : List Operation) (books : Books) : Type 0 where
    pub world : IsWorld K S
    pub closed : IsClosed S
    pub heap : (h : ℕ) → (books h).heap ≡ h
    pub heaps : (h : ℕ) → (books h).heaps ≡ K
    pub state : (h : ℕ) → (books h).state ≡ image_of S h

  -- the steps of these moves can come over them
  abbrev pub AreLegal : List Operation → List Move → Type 0
  AreLegal S moves = (h : ℕ) → IsIn h (heaps_in K) → are_steps_over K h (image_of S h) (moved_in K site stamp h moves (vector_of S h)) ≡ true

  -- the books after a move
  abbrev moved : Move → Books → Books
  moved move books = λ h. if is_home move (books h) then made_in site stamp move (books h) else books h

  -- ---- one move

  module _ (move : Move) (moves : List Move) (S : List Operation) (books : Books) (at : IsAt S books) (legal : AreLegal S (move ∷ moves)) where
    abbrev home : ℕ
    home = heap_of move.key move.member K

    abbrev o : Operation
    o = operation_off K site S move

    abbrev v : List ℕ
    v = vector_of S home

    there : IsIn home (heaps_in K)
    there = in_range_with_len 0 K home (omega arith) (let below = heap_in_range move.key move.member K some in omega (arith, below))

    abbrev next_steps : ℕ → List Step
    next_steps h = step_of stamp (Made (operation_over h (vector_of S h) site move.key move.member move.act)) ∷ moved_in K site stamp h moves (slice_set (vector_of S h) site (slice_index (vector_of S h) site + 1))

    both : (is_change_over K home v (Made o) ≡ true) × (are_steps_over K home (image_after o (image_of S home)) (moved_in K site stamp home moves (slice_set v site (slice_index v site + 1))) ≡ true)
    both =
        and_parts _ _
        (sym (ap (λ b. are_steps_over K home (image_of S home) (if b then next_steps home else moved_in K site stamp home moves v)) (eq-eqb home home refl)) ∙ legal home there)

    is_made : IsMade K S o
    is_made =
        let is = (change_is K home v (Made o) both.0).operation in
        record { heaps = is.heaps; act = is.act; site = is.site; heap = refl; seen = refl; n = refl; bounded = is.bounded }

    world_next : IsWorld K (o ∷ S)
    world_next = making_world K S o at.world at.closed is_made

    image_here : image_of (o ∷ S) home ≡ image_after o (image_of S home)
    image_here = step_in_heap K home S o world_next at.closed (made_new K S o at.world is_made) refl

    image_apart : (k : ℕ) → (home ≡ k → ⊥) → image_of (o ∷ S) k ≡ image_of S k
    image_apart k apart =
        image_of-same_heap K (o ∷ S) S k world_next at.world (λ p i is. elim i [ inl e ↦ absurd (apart (ap (λ (x : Operation). x.heap) e ∙ is)) | inr j ↦ j ]) (λ p i is. inr i)

    home_is : (h : ℕ) → is_home move (books h) ≡ (home == h)
    home_is h = ap (λ n. heap_of move.key move.member n == (books h).heap) (at.heaps h) ∙ ap (λ k. home == k) (at.heap h)

    not_home : (h : ℕ) → (home == h) ≡ false → home ≡ h → ⊥
    not_home h other same = true≢false (sym (eq-eqb home h same) ∙ other)

    state_here : (h : ℕ) → home ≡ h → image_after (operation_in site move (books h)) (books h).state ≡ image_of (o ∷ S) h
    state_here h same =
        (λ i. image_after (operation_over (at.heap h i) (at.state h i).vector site move.key move.member move.act) (at.state h i))
        ∙ subst (λ k. image_after (operation_over k (vector_of S k) site move.key move.member move.act) (image_of S k) ≡ image_of (o ∷ S) k) same (sym image_here)

    pub at_next : IsAt (o ∷ S) (moved move books)
    at_next = record {
      world = world_next;
      closed = making_closed K S o at.world at.closed is_made;
      heap = λ h. elim (is_home move (books h)) as (λ b. (if b then made_in site stamp move (books h) else books h).heap ≡ h) [ true ↦ at.heap h | false ↦ at.heap h ];
      heaps = λ h. elim (is_home move (books h)) as (λ b. (if b then made_in site stamp move (books h) else books h).heaps ≡ K) [ true ↦ at.heaps h | false ↦ at.heaps h ];
      state = λ h. elim (cases_Bool (home == h)) [
        | inl same ↦ ap (λ b. (if b then made_in site stamp move (books h) else books h).state) (home_is h ∙ same) ∙ state_here h (eqb-true home h same)
        | inr other ↦ ap (λ b. (if b then made_in site stamp move (books h) else books h).state) (home_is h ∙ other) ∙ at.state h ∙ sym (image_apart h (not_home h other))
      ];
    }

    pub legal_next : AreLegal (o ∷ S) moves
    legal_next h i = elim (cases_Bool (home == h)) [
      | inl same ↦ subst (λ k. are_steps_over K k (image_of (o ∷ S) k) (moved_in K site stamp k moves (vector_of (o ∷ S) k)) ≡ true) (eqb-true home h same)
          (subst (λ (a : Image). are_steps_over K home a (moved_in K site stamp home moves a.vector) ≡ true) (sym image_here) both.1)
      | inr other ↦ subst (λ (a : Image). are_steps_over K h a (moved_in K site stamp h moves a.vector) ≡ true) (sym (image_apart h (not_home h other)))
          (sym (ap (λ b. are_steps_over K h (image_of S h) (if b then next_steps h else moved_in K site stamp h moves (vector_of S h))) other) ∙ legal h i)
    ]

  -- ---- several

  -- the books after moves
  abbrev moved_all : List Move → Books → Books
  moved_all [] books = books
  moved_all (move ∷ moves) books = moved_all moves (moved move books)

  after_all : (moves : List Move) (books : Books) (heaps : List ℕ) → books_after site stamp moves (map books heaps) ≡ map (moved_all moves books) heaps
  after_all [] books heaps = refl
  after_all (move ∷ moves) books heaps = ap (books_after site stamp moves) (once heaps) ∙ after_all moves (moved move books) heaps
    where
      once : (hs : List ℕ) → made site stamp move (map books hs) ≡ map (moved move books) hs
      once [] = refl
      once (h ∷ hs) = ap (λ l. moved move books h ∷ l) (once hs)

  stands : (moves later : List Move) (S : List Operation) (books : Books) → IsAt S books → AreLegal S (moves ++ later) → IsAt (with_moves K site moves S) (moved_all moves books) × AreLegal (with_moves K site moves S) later
  stands [] later S books at legal = (at, legal)
  stands (move ∷ moves) later S books at legal =
      stands moves later (operation_off K site S move ∷ S) (moved move books) (at_next move (moves ++ later) S books at legal) (legal_next move (moves ++ later) S books at legal)

  queues_at : (S : List Operation) (books : Books) → IsAt S books → (heaps : List ℕ) → queues_of rule (map books heaps) ≡ queues_over rule S heaps
  queues_at S books at heaps = λ i key. queue_of rule key (members heaps i)
    where
      members : (hs : List ℕ) → map (λ (b : Book). b.state.members) (map books hs) ≡ map (λ h. (image_of S h).members) hs
      members [] = refl
      members (h ∷ hs) = let first = at.state h in let rest = members hs in λ i. (first i).members ∷ rest i

  -- ---- procedures

  pub runs_off : (ps : List Procedure) (S : List Operation) (books : Books) (moves : List Move) (replies : List Word) → IsAt S books → AreLegal S moves → AreRunsFrom rule site stamp ps (map books (heaps_in K)) moves replies →
      AreRunsOf rule K site S ps moves replies
  runs_off [] S books moves [] at legal are = are
  runs_off [] S books moves (reply ∷ replies) at legal are = absurd are
  runs_off (p ∷ ps) S books moves [] at legal are = absurd are
  runs_off (p ∷ ps) S books moves (reply ∷ replies) at legal are =
      let first : List Move = are.0 in
      let later : List Move = are.1 in
      let next = stands first later S books at (subst (AreLegal S) are.2 legal) in (
        first,
        later,
        are.2,
        subst (λ (q : Queues). IsProcedureOver q p first reply) (queues_at S books at (heaps_in K)) are.3,
        runs_off ps (with_moves K site first S) (moved_all first books) later replies next.0 next.1 (subst (λ (bs : List Book). AreRunsFrom rule site stamp ps bs later replies) (after_all first books (heaps_in K)) are.4),
      )

  -- the steps of a call can come over what it found
  own_each : (books : Books) (f : ℕ → List Step) (heaps : List ℕ) → AreOwnIn stamp books heaps (map f heaps) → (h : ℕ) → IsIn h heaps → AreOwn stamp (books h) (f h)
  own_each books f [] own h i = absurd i
  own_each books f (k ∷ heaps) own h (inl same) = subst (λ x. AreOwn stamp (books x) (f x)) same own.0
  own_each books f (k ∷ heaps) own h (inr later) = own_each books f heaps own.1 h later

  pub legal_from : (S : List Operation) (books : Books) (moves : List Move) → IsAt S books → AreOwnIn stamp books (heaps_in K) (map (λ h. moved_in K site stamp h moves (vector_of S h)) (heaps_in K)) → AreLegal S moves
  legal_from S books moves at own = λ h i.
      let steps : List Step = moved_in K site stamp h moves (vector_of S h) in
      let its = own_each books (λ k. moved_in K site stamp k moves (vector_of S k)) (heaps_in K) own h i in
      subst (λ (a : Image). are_steps_over K h a steps ≡ true) (at.state h)
      (subst (λ x. are_steps_over K x (books h).state steps ≡ true) (at.heap h)
      (subst (λ n. are_steps_over n (books h).heap (books h).state steps ≡ true) (at.heaps h) its.legal))

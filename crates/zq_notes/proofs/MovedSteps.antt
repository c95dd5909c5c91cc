-- The steps of a command are those of its moves, each in its heap.

use Rattle.std.proofs.Common.{ap, inl, inr, subst, sym, ◌∙◌}
use Rattle.std.proofs.lemmas.Bool.{cases_Bool}
use Rattle.std.proofs.lemmas.List.{append-nil, append_assoc, append_cancel_left}
use Rattle.std.specs.Prelude.{List, [], false, if◌then◌else◌, map, refl, slice_index, slice_set, true, ℕ, ◌+◌, ◌++◌, ◌==◌, ◌∷◌, ◌≡◌}
use Rattle.zq_model.specs.Books.{Book, Made, Record, Step, steps_of}
use Rattle.zq_journal.specs.Books.{step_of}
use Rattle.zq_model.specs.Heaps.{heap_of}
use Rattle.zq_model.specs.Operation.{operation_over}
use Rattle.zq_model.specs.Lent.{books_after, is_home, made, made_in}
use Rattle.zq_model.specs.Moves.{Move}
use Rattle.zq_notes.specs.Readings.{moved_in}
use Rattle.zq_spread.specs.Commanded.{AreAppended}

module _ (site stamp : ℕ) where
  abbrev moved : Move → Book → Book
  moved move b = if is_home move b then made_in site stamp move b else b

  -- the book after the moves of its heap
  abbrev moved_on : List Move → Book → Book
  moved_on [] b = b
  moved_on (move ∷ moves) b = moved_on moves (moved move b)

  each_moved : (moves : List Move) (books : List Book) → books_after site stamp moves books ≡ map (moved_on moves) books
  each_moved [] books = same books
    where
      same : (books : List Book) → books ≡ map (λ (b : Book). b) books
      same [] = refl
      same (b ∷ books) = ap (λ l. b ∷ l) (same books)
  each_moved (move ∷ moves) books = each_moved moves (made site stamp move books) ∙ twice books
    where
      twice : (books : List Book) → map (moved_on moves) (map (moved move) books) ≡ map (moved_on (move ∷ moves)) books
      twice [] = refl
      twice (b ∷ books) = ap (λ l. moved_on moves (moved move b) ∷ l) (twice books)

  -- its records, which are those moves made
  pub record AreMovedIn (K h : ℕ) (moves : List Move) (b : Book) : Type 0 where
    pub records : List Record
    pub tail : (moved_on moves b).tail ≡ b.tail ++ records
    pub steps : steps_of records ≡ moved_in K site stamp h moves b.state.vector

  moved_records : (K h : ℕ) (moves : List Move) (b : Book) → b.heaps ≡ K → b.heap ≡ h → AreMovedIn K h moves b
  moved_records K h [] b heaps heap = record { records = []; tail = sym (append-nil b.tail); steps = refl }
  moved_records K h (move ∷ moves) b heaps heap =
      let at : (heap_of move.key move.member K == h) ≡ is_home move b = ap (λ n. heap_of move.key move.member n == h) (sym heaps) ∙ ap (λ k. heap_of move.key move.member b.heaps == k) (sym heap) in
      elim (cases_Bool (is_home move b)) [
        | inl here ↦ (
            let rest = moved_records K h moves (made_in site stamp move b) heaps heap in
            let r : Record = record { stamp = stamp; change = Made (operation_over b.heap b.state.vector site move.key move.member move.act) } in
            let more : steps_of (r ∷ rest.records) ≡ step_of stamp (Made (operation_over h b.state.vector site move.key move.member move.act)) ∷ moved_in K site stamp h moves (slice_set b.state.vector site (slice_index b.state.vector site + 1)) =
            (λ i. step_of stamp (Made (operation_over (heap i) b.state.vector site move.key move.member move.act)) ∷ rest.steps i) in
            let yes : (heap_of move.key move.member K == h) ≡ true = at ∙ here in
            let led : moved move b ≡ made_in site stamp move b = rw here refl in
            record { records = r ∷ rest.records; tail = ap (λ (c : Book). (moved_on moves c).tail) led ∙ rest.tail ∙ append_assoc b.tail (r ∷ []) rest.records; steps = rw yes more })
        | inr away ↦ (
            let rest = moved_records K h moves b heaps heap in
            let none : (heap_of move.key move.member K == h) ≡ false = at ∙ away in
            let led : moved move b ≡ b = rw away refl in
            record { records = rest.records; tail = ap (λ (c : Book). (moved_on moves c).tail) led ∙ rest.tail; steps = rw none rest.steps })
      ]

  -- what was appended to books that the moves led to
  pub appended_moves : (K : ℕ) (moves : List Move) (heaps : List ℕ) (books : ℕ → Book) (steps : List (List Step)) → ((h : ℕ) → (books h).heaps ≡ K) → ((h : ℕ) → (books h).heap ≡ h) →
      AreAppended (map (moved_on moves) (map books heaps)) (map books heaps) steps → steps ≡ map (λ h. moved_in K site stamp h moves (books h).state.vector) heaps
  appended_moves K moves [] books [] of at is = refl
  appended_moves K moves [] books (ss ∷ steps) of at is = absurd is
  appended_moves K moves (h ∷ heaps) books [] of at is = absurd is
  appended_moves K moves (h ∷ heaps) books (ss ∷ steps) of at is =
      let mine = moved_records K h moves (books h) (of h) (at h) in
      let same : mine.records ≡ is.0.records = append_cancel_left (books h).tail mine.records is.0.records (sym mine.tail ∙ is.0.tail) in
      let first : ss ≡ moved_in K site stamp h moves (books h).state.vector = is.0.recorded ∙ ap steps_of (sym same) ∙ mine.steps in
      let rest = appended_moves K moves heaps books steps of at is.1 in
      λ i. first i ∷ rest i

  pub moves_are : (K : ℕ) (moves : List Move) (heaps : List ℕ) (books : ℕ → Book) (left : List Book) (steps : List (List Step)) → ((h : ℕ) → (books h).heaps ≡ K) → ((h : ℕ) → (books h).heap ≡ h) →
      left ≡ books_after site stamp moves (map books heaps) → AreAppended left (map books heaps) steps → steps ≡ map (λ h. moved_in K site stamp h moves (books h).state.vector) heaps
  moves_are K moves heaps books left steps of at led is =
      appended_moves K moves heaps books steps of at (subst (λ l. AreAppended l (map books heaps) steps) (led ∙ each_moved moves (map books heaps)) is)

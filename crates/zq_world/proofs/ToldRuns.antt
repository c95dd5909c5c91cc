-- What moves of a site tell is what its state then has made.

use Rattle.std.proofs.Common.{List, Some, [], ap, arith, eq-eqb, eqb-true, false, inl, inr, map, refl, suc, sym, true, zero, ℕ, ◌++◌, ◌+◌, ◌<◌, ◌∙◌, ◌∷◌, ◌≡◌, ◌≤◌, length}
use Rattle.std.proofs.lemmas.Bool.{cond-false, cond-true, false_from_ne_true}
use Rattle.std.proofs.lemmas.Option.{same_Some}
use Rattle.std.specs.Prelude.{filter, slice_get}
use Rattle.zq_commands.specs.Lending.{operations_by}
use Rattle.zq_commands.specs.Running.{told_after}
use Rattle.zq_dots.specs.Placed.{Placed}
use Rattle.zq_model.specs.Books.{Book}
use Rattle.zq_model.specs.Heaps.{heap_of}
use Rattle.zq_model.specs.Operation.{Operation, operation_over}
use Rattle.zq_model.specs.Rule.{Rule}
use Rattle.zq_model.specs.Sets.{IsClosed, IsHeaps, IsWorld, SITES}
use Rattle.zq_model.specs.Lent.{is_home, made, operation_in}
use Rattle.zq_model.specs.Moves.{Move}
use Rattle.zq_semantics.proofs.KeptRuns.{heap_below}
use Rattle.zq_semantics.proofs.MovedBooks.{books_then, closed_then, more_stand, read_within, world_then}
use Rattle.zq_semantics.proofs.NearBooks.{ArePlaced, IsPlaced, placed_rest}
use Rattle.zq_semantics.specs.Books.{AreBooksOf, AreSound}
use Rattle.zq_semantics.specs.State.{State, after_move, after_moves, home_of, operation_by, standing}
use Rattle.zq_world.specs.Frames.{placed}
use Rattle.zq_world.specs.Told.{AreAmong, operations_in}

-- ---- the one book of a move's heap

module _ (K site : ℕ) (move : Move) where
  home_is : (h : ℕ) (b : Book) → IsPlaced K h b → h ≡ home_of K move → is_home move b ≡ true
  home_is h b is here = eq-eqb _ _ (ap (heap_of move.key move.member) is.heaps ∙ sym here ∙ sym is.heap)

  home_not : (h : ℕ) (b : Book) → IsPlaced K h b → (h ≡ home_of K move → ⊥) → is_home move b ≡ false
  home_not h b is apart = false_from_ne_true (is_home move b) (λ e. apart (sym is.heap ∙ sym (eqb-true _ _ e) ∙ ap (heap_of move.key move.member) is.heaps))

  none_home : (books : List Book) (a : ℕ) → ArePlaced K a books → home_of K move + 1 ≤ a → filter (is_home move) books ≡ []
  none_home [] a are past = refl
  none_home (b ∷ books) a are past =
      cond-false (is_home move b) (b ∷ filter (is_home move) books) (filter (is_home move) books) (home_not (a + 0) b (are 0 b refl) (λ e. omega (arith, past, e)))
      ∙ none_home books (a + 1) (placed_rest K a b books are) (omega (arith, past))

  one_home : (books : List Book) (a j : ℕ) (b : Book) → ArePlaced K a books → home_of K move ≡ a + j → slice_get books j ≡ Some b → filter (is_home move) books ≡ b ∷ []
  one_home [] a j b are here at = absurd (cc)
  one_home (c ∷ books) a zero b are here at =
      let same = same_Some c b at in
      let rest = none_home books (a + 1) (placed_rest K a c books are) (omega (arith, here)) in
      cond-true (is_home move c) (c ∷ filter (is_home move) books) (filter (is_home move) books) (home_is (a + 0) c (are 0 c refl) (omega (arith, here))) ∙ (λ i. same i ∷ rest i)
  one_home (c ∷ books) a (suc j) b are here at =
      cond-false (is_home move c) (c ∷ filter (is_home move) books) (filter (is_home move) books) (home_not (a + 0) c (are 0 c refl) (λ e. omega (arith, here, e)))
      ∙ one_home books (a + 1) j b (placed_rest K a c books are) (omega (arith, here)) at

-- ---- moves

module _ (rule : Rule) (K site stamp : ℕ) (heaps : IsHeaps K) (below : site < SITES) where
  pub placed_books : (st : State) (books : List Book) → AreBooksOf rule K st site books → ArePlaced K 0 books
  placed_books st books are i b at = let is = are.each i b at in record { heap = is.heap ∙ (omega arith); heaps = is.heaps }

  -- a move over the site's books tells the operation that it becomes
  pub told_move : (st : State) (books : List Book) (move : Move) → AreBooksOf rule K st site books → operations_by site move books ≡ operation_by st site (home_of K move) move ∷ []
  told_move st books move are =
      let home = home_of K move in
      let low = heap_below K heaps move in
      let number = are.number in
      let found = read_within books home (omega (arith, number, low)) in
      let b : Book = found.0 in
      let is = are.each home b found.1 in
      let one = one_home K site move books 0 home b (placed_books st books are) (omega arith) found.1 in
      let same : operation_in site move b ≡ operation_by st site home move
      = λ i. operation_over (is.heap i) (is.state i).vector site move.key move.member move.act in
      ap (map (operation_in site move)) one ∙ ap (λ (o : Operation). o ∷ []) same

  pub told_moves : (moves : List Move) (st : State) (books : List Book) → IsWorld K (st.sets site) → IsClosed (st.sets site) → AreSound moves →
      standing K site stamp moves st ≡ length moves → AreBooksOf rule K st site books → told_after site stamp moves books (Some st.made) ≡ Some (after_moves K site stamp moves st).made
  told_moves [] st books world closed sound all are = refl
  told_moves (move ∷ moves) st books world closed sound all are =
      let its = sound move (inl refl) in
      let stands = more_stand rule K site stamp heaps below st move moves (length moves) (omega (arith, all)) in
      let next_all = stands.1 in
      ap (λ (os : List Operation). told_after site stamp moves (made site stamp move books) (Some (st.made ++ os))) (told_move st books move are)
      ∙ told_moves moves (after_move K site stamp move st) (made site stamp move books)
      (world_then rule K site stamp heaps below st world closed move its stands.0) (closed_then rule K site stamp heaps below st world closed move its stands.0)
      (λ m i. sound m (inr i)) (omega (arith, all, next_all)) (books_then rule K site stamp heaps below st world closed move its stands.0 books are)

-- ---- lists of what was made

-- operations of as many heaps are known by what they are
pub placed_all : (K : ℕ) (told : List Placed) → AreAmong K told → told ≡ map (placed K) (operations_in told)
placed_all K [] are = refl
placed_all K (p ∷ told) are =
    let first : p ≡ placed K p.operation = λ i. record { heaps = are p (inl refl) i; operation = p.operation } in
    let rest = placed_all K told (λ q here. are q (inr here)) in
    λ i. first i ∷ rest i

pub operations_placed : (K : ℕ) (ops : List Operation) → operations_in (map (placed K) ops) ≡ ops
operations_placed K [] = refl
operations_placed K (o ∷ ops) = ap (λ (os : List Operation). o ∷ os) (operations_placed K ops)

pub among_placed : (K : ℕ) (ops : List Operation) → AreAmong K (map (placed K) ops)
among_placed K [] p here = absurd here
among_placed K (o ∷ ops) p here = elim here [
  | inl same ↦ sym (ap (λ (q : Placed). q.heaps) same)
  | inr there ↦ among_placed K ops p there
]

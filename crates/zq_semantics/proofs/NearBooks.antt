-- A pop of one pair over the book that has it, and over all books of the site.

use Rattle.std.proofs.Common.{List, Some, [], ap, arith, eqb-true, inl, inr, map, refl, subst, suc, sym, true, zero, ℕ, ◌+◌, ◌≤◌, ◌∙◌, ◌∷◌, ◌≡◌}
use Rattle.std.proofs.lemmas.Bool.{cond-false, false_from_ne_true}
use Rattle.std.proofs.lemmas.Option.{none-some, same_Some}
use Rattle.std.specs.Prelude.{if◌then◌else◌, slice_get, slice_set, take}
use Rattle.zq_model.specs.Books.{Book}
use Rattle.zq_model.proofs.MeantQueues.{queue_is}
use Rattle.zq_model.specs.Heaps.{heap_of}
use Rattle.zq_model.specs.Image.{Image, image_of}
use Rattle.zq_model.specs.Meaning.{Scored}
use Rattle.zq_model.specs.Operation.{Drop}
use Rattle.zq_model.specs.Queue.{queue_of}
use Rattle.zq_model.specs.Rule.{Rule}
use Rattle.zq_model.specs.Sets.{IsIn, IsWorld}
use Rattle.zq_model.specs.Lent.{books_after, is_home, made_in, queues_of}
use Rattle.zq_model.specs.Moves.{Move, Queue, Queues}
use Rattle.zq_semantics.specs.Plan.{drops, plan_of}
use Rattle.zq_semantics.specs.Replies.{pairs_reply}
use Rattle.zq_semantics.specs.Books.{AreBooksOf}
use Rattle.zq_semantics.specs.State.{State}
use Rattle.zq_words.specs.Command.{Zpopnear}
use Rattle.zq_words.specs.Words.{Word}

-- ---- one place of the books

slice_set_same : {X : Type 0} (xs : List X) (i : ℕ) (x : X) → slice_get xs i ≡ Some x → slice_set xs i x ≡ xs
slice_set_same [] i x at = absurd (none-some x at)
slice_set_same (y ∷ xs) zero x at = let same = same_Some y x at in λ i. sym same i ∷ xs
slice_set_same (y ∷ xs) (suc i) x at = ap (λ ys. y ∷ ys) (slice_set_same xs i x at)

-- the one book of two equal lists
only : {x y : Book} → x ∷ [] ≡ y ∷ [] → x ≡ y
only {x} {y} e = same_Some x y (ap (λ (books : List Book). slice_get books 0) e)

-- a book of the heap h, of K
pub record IsPlaced (K h : ℕ) (b : Book) : Type 0 where
  pub heap : b.heap ≡ h
  pub heaps : b.heaps ≡ K

-- the books are those of the heaps from a on, in order
abbrev pub ArePlaced : ℕ → ℕ → List Book → Type 0
ArePlaced K a books = (i : ℕ) (b : Book) → slice_get books i ≡ Some b → IsPlaced K (a + i) b

pub placed_rest : (K a : ℕ) (b : Book) (books : List Book) → ArePlaced K a (b ∷ books) → ArePlaced K (a + 1) books
placed_rest K a b books are i c at =
    let is = are (suc i) c at in
    record { heap = is.heap ∙ (omega arith); heaps = is.heaps }

module _ (K site stamp : ℕ) (move : Move) where
  abbrev home : ℕ
  home = heap_of move.key move.member K

  abbrev moved : Book → Book
  moved b = if is_home move b then made_in site stamp move b else b

  moved_away : (h : ℕ) (b : Book) → IsPlaced K h b → (h ≡ home → ⊥) → moved b ≡ b
  moved_away h b is apart =
      cond-false (is_home move b) (made_in site stamp move b) b
      (false_from_ne_true (is_home move b) (λ e. apart (sym is.heap ∙ sym (eqb-true _ _ e) ∙ ap (heap_of move.key move.member) is.heaps)))

  all_away : (books : List Book) (a : ℕ) → ArePlaced K a books → home + 1 ≤ a → map moved books ≡ books
  all_away [] a are past = refl
  all_away (b ∷ books) a are past =
      let first = moved_away (a + 0) b (are 0 b refl) (λ e. omega (arith, past, e)) in
      let rest = all_away books (a + 1) (placed_rest K a b books are) (omega (arith, past)) in
      λ i. first i ∷ rest i

  one_changes : (books : List Book) (a j : ℕ) (b : Book) → ArePlaced K a books → home ≡ a + j → slice_get books j ≡ Some b → map moved books ≡ slice_set books j (moved b)
  one_changes [] a j b are here at = absurd (none-some b at)
  one_changes (c ∷ books) a zero b are here at =
      let same = ap moved (same_Some c b at) in
      let rest = all_away books (a + 1) (placed_rest K a c books are) (omega (arith, here)) in
      λ i. same i ∷ rest i
  one_changes (c ∷ books) a (suc j) b are here at =
      let first = moved_away (a + 0) c (are 0 c refl) (λ e. omega (arith, here, e)) in
      let rest = one_changes books (a + 1) j b (placed_rest K a c books are) (omega (arith, here)) at in
      λ i. first i ∷ rest i

-- ---- the first pair

-- the first pair of a queue as a list
take_first : (q r : Queue) → slice_get q 0 ≡ slice_get r 0 → take 1 q ≡ take 1 r
take_first [] [] same = refl
take_first [] (y ∷ r) same = absurd (none-some y same)
take_first (x ∷ q) [] same = absurd (none-some x (sym same))
take_first (x ∷ q) (y ∷ r) same = ap (λ z. z ∷ []) (same_Some x y same)

pub same_plan : (key : Word) (queues others : Queues) → slice_get (queues key) 0 ≡ slice_get (others key) 0 → plan_of (Zpopnear key) queues ≡ plan_of (Zpopnear key) others
same_plan key queues others same = ap (λ pairs. record { moves = drops key pairs; reply = pairs_reply true pairs }) (take_first (queues key) (others key) same)

module _ (rule : Rule) (K : ℕ) (st : State) (site stamp : ℕ) (books : List Book) (world : IsWorld K (st.sets site)) (are : AreBooksOf rule K st site books)
    (h : ℕ) (b : Book) (found : slice_get books h ≡ Some b) (key : Word) where
  placed : ArePlaced K 0 books
  placed i c at = let is = are.each i c at in record { heap = is.heap ∙ (omega arith); heaps = is.heaps }

  -- what stands in the queue over the book lies in its heap
  lies : (p : Scored) → IsIn p (queues_of rule (b ∷ []) key) → heap_of key p.1 K ≡ h
  lies p i =
      let state = (are.each h b found).state in
      let there : IsIn p (queue_of rule key (map (λ k. (image_of (st.sets site) k).members) (h ∷ []))) = subst (λ (a : Image). IsIn p (queue_of rule key (a.members ∷ []))) state i in
      let named = (((queue_is rule K (st.sets site) key (h ∷ []) world).members p.0 p.1).0 there).0 in
      elim named [ inl e ↦ sym e | inr none ↦ absurd none ]

  -- the books after the first k moves of the pop, by the one book after them
  alone_by : (q : Queue) → ((p : Scored) → IsIn p q → heap_of key p.1 K ≡ h) → (k : ℕ) (new : Book) → new ∷ [] ≡ books_after site stamp (take k (drops key (take 1 q))) (b ∷ []) →
      slice_set books h new ≡ books_after site stamp (take k (drops key (take 1 q))) books
  alone_by [] homes zero new is = ap (slice_set books h) (only is) ∙ slice_set_same books h b found
  alone_by [] homes (suc k) new is = ap (slice_set books h) (only is) ∙ slice_set_same books h b found
  alone_by (p ∷ q) homes zero new is = ap (slice_set books h) (only is) ∙ slice_set_same books h b found
  alone_by (p ∷ q) homes (suc zero) new is =
      let move : Move = record { key = key; member = p.1; act = Drop } in
      ap (slice_set books h) (only is) ∙ sym (one_changes K site stamp move books 0 h b placed (let here = homes p (inl refl) in omega (arith, here)) found)
  alone_by (p ∷ q) homes (suc (suc k)) new is =
      let move : Move = record { key = key; member = p.1; act = Drop } in
      ap (slice_set books h) (only is) ∙ sym (one_changes K site stamp move books 0 h b placed (let here = homes p (inl refl) in omega (arith, here)) found)

  pub alone_is : (k : ℕ) (new : Book) → new ∷ [] ≡ books_after site stamp (take k (plan_of (Zpopnear key) (queues_of rule (b ∷ []))).moves) (b ∷ []) →
      slice_set books h new ≡ books_after site stamp (take k (plan_of (Zpopnear key) (queues_of rule (b ∷ []))).moves) books
  alone_is k new is = alone_by (queues_of rule (b ∷ []) key) lies k new is

-- The pairs of a queue that pass, in order or turned round, over several books.

use Rattle.std.proofs.Common.{Bool, List, [], ap, arith, drop, false, inl, inr, refl, subst, suc, sym, take, true, zero, ℕ, ◌∙◌, ◌∷◌, ◌≡◌, map}
use Rattle.std.specs.Prelude.{filter}
use Rattle.zq_commands.proofs.Sections.{take_none}
use Rattle.zq_commands.proofs.Woven.{filter_order, in_turned_if, turned_if_in, turned_order, woven_first}
use Rattle.zq_commands.specs.Weaving.{woven}
use Rattle.zq_model.specs.Books.{Book}
use Rattle.zq_model.proofs.Listing.{in_map_from}
use Rattle.zq_model.proofs.Queued.{queued_score}
use Rattle.zq_model.proofs.Rising.{rising_keys}
use Rattle.zq_model.specs.Heaps.{heap_of}
use Rattle.zq_model.specs.Image.{entry_at}
use Rattle.zq_model.specs.Meaning.{Scored}
use Rattle.zq_model.specs.Rule.{Rule}
use Rattle.zq_model.specs.Score.{score_of}
use Rattle.zq_model.specs.Sets.{IsIn}
use Rattle.zq_model.proofs.Counted.{in_merged, in_merged_from, queue_merged}
use Rattle.zq_model.proofs.Homes.{has_addition, lent_each}
use Rattle.zq_model.proofs.Lists.{in_filter, in_filter_from}
use Rattle.zq_model.specs.Lent.{AreLent, queues_of}
use Rattle.zq_model.specs.Moves.{Queue}
use Rattle.zq_semantics.specs.Ranges.{turned_if}

pub lent_behind : (K n : ℕ) (books : List Book) → AreLent K books → AreLent K (drop n books)
lent_behind K zero books are = are
lent_behind K (suc n) [] are = tt
lent_behind K (suc n) (b ∷ books) are = lent_behind K n books are.2

pub run_none : (t : Bool) (p : Scored → Bool) (n : ℕ) (q : Queue) → q ≡ [] → take n (filter p (turned_if t q)) ≡ []
run_none t p n q none =
    let empty : turned_if t [] ≡ [] = elim t as (λ b. turned_if b [] ≡ []) [ true ↦ refl | false ↦ refl ] in
    take_none (filter p (turned_if t q)) n (ap (λ r. filter p (turned_if t r)) none ∙ ap (filter p) empty)

module _ (rule : Rule) (K : ℕ) (key : List ℕ) where
  -- the member lies in the heap of one of the books
  heap_in : (books : List Book) (y : Scored) → AreLent K books → IsIn y (queues_of rule books key) → (b : Book) × IsIn b books × (heap_of key y.1 K ≡ b.heap)
  heap_in books y are here =
      let one = queued_score rule key (map (λ (b : Book). b.state.members) books) y.0 y.1 here in
      let book = in_map_from (λ (b : Book). b.state.members) one.0 books one.1 in
      let score = ap (λ a. score_of rule (entry_at a (key, y.1))) book.2 ∙ one.2 in
      (book.0, book.1, has_addition rule K book.0 key y.1 y.0 (lent_each K books book.0 are book.1) score)

  module _ (b : Book) (books : List Book) (are : AreLent K (b ∷ books)) where
    apart : (y : Scored) → IsIn y (queues_of rule (b ∷ []) key) → IsIn y (queues_of rule books key) → ⊥
    apart y here there =
        let first = heap_in (b ∷ []) y (are.0, λ later none. absurd none, tt) here in
        let second = heap_in books y are.2 there in
        let same : b.heap ≡ first.0.heap = elim first.1 [ inl it ↦ ap (λ (c : Book). c.heap) it | inr none ↦ absurd none ] in
        let low = are.1 second.0 second.1 in
        absurd (omega (arith, same, first.2, second.2, low))

    -- the first so many of those that pass are woven of the first so many of the first book's and of the others'
    pub run_woven : (t : Bool) (p : Scored → Bool) (n : ℕ) → take n (filter p (turned_if t (queues_of rule (b ∷ books) key))) ≡
        woven t n (take n (filter p (turned_if t (queues_of rule (b ∷ []) key)))) (take n (filter p (turned_if t (queues_of rule books key))))
    run_woven t p n =
        let q = queues_of rule (b ∷ books) key in
        let q1 = queues_of rule (b ∷ []) key in
        let q2 = queues_of rule books key in
        let order = λ (r : List Book). filter_order t p (turned_if t (queues_of rule r key)) (turned_order t (queues_of rule r key) (rising_keys _)) in
        let member = λ (r : Queue) (y : Scored) (here : IsIn y (filter p (turned_if t r))). in_turned_if t r y (in_filter_from p (turned_if t r) y here).0 in
        let keeps = λ (r : Queue) (y : Scored) (here : IsIn y r) (passes : p y ≡ true). in_filter p (turned_if t r) y (turned_if_in t r y here) passes in
        woven_first t n (filter p (turned_if t q1)) (filter p (turned_if t q2)) (filter p (turned_if t q)) (order (b ∷ [])) (order books) (order (b ∷ books))
        (λ y here there. apart y (member q1 y here) (member q2 y there))
        (record {
          from = λ y here.
              let passes = (in_filter_from p (turned_if t q) y here).1 in
              elim (in_merged_from q1 q2 y (subst (λ r. IsIn y r) (queue_merged rule key b books) (member q y here))) [
                | inl one ↦ inl (keeps q1 y one passes)
                | inr other ↦ inr (keeps q2 y other passes)
              ];
          first = λ y here. keeps q y (subst (λ r. IsIn y r) (sym (queue_merged rule key b books)) (in_merged q1 q2 y (inl (member q1 y here)))) (in_filter_from p (turned_if t q1) y here).1;
          second = λ y here. keeps q y (subst (λ r. IsIn y r) (sym (queue_merged rule key b books)) (in_merged q1 q2 y (inr (member q2 y here)))) (in_filter_from p (turned_if t q2) y here).1;
        })

-- A site that is handed an operation which was made.

use Rattle.std.proofs.Common.{List, Some, ap, arith, false, refl, subst, sym, true, ℕ, ◌<◌, ◌==◌, ◌∙◌, ◌∷◌, ◌≡◌}
use Rattle.std.specs.Prelude.{if◌then◌else◌, slice_get}
use Rattle.zq_dots.specs.Placed.{Placed}
use Rattle.zq_model.specs.Books.{Book}
use Rattle.zq_journal.specs.Books.{state_of}
use Rattle.zq_model.proofs.Worlds.{world_part}
use Rattle.zq_model.specs.Heaps.{heap_of}
use Rattle.zq_model.specs.Operation.{Operation}
use Rattle.zq_model.specs.Rule.{Rule}
use Rattle.zq_model.specs.Sets.{Early, IsClosed, IsIn, IsWorld, Known, New, Taken}
use Rattle.zq_semantics.proofs.BooksOf.{books_of_others}
use Rattle.zq_semantics.proofs.Kept.{IsKept}
use Rattle.zq_semantics.proofs.KeptRuns.{heap_below_key, kept_always}
use Rattle.zq_semantics.proofs.MovedBooks.{read_within}
use Rattle.zq_semantics.specs.Books.{AreBooksOf}
use Rattle.zq_semantics.specs.Events.{after_taken, is_blocked}
use Rattle.zq_semantics.specs.State.{State, counted, next_stamp}
use Rattle.zq_shard.specs.Shard.{IsOfHeap}
use Rattle.zq_world.specs.Frames.{placed}
use Rattle.zq_world.specs.Play.{Holds, Played, run_of}
use Rattle.zq_world.specs.declared.player.Player.{Player}
use Rattle.std.proofs.Common.{inl, inr}

module _ (played : Played) (player : Player) (held : Holds played player) where
  abbrev K : ℕ
  K = played.heaps

  abbrev st : State
  st = (run_of played).now

  kept : IsKept K (run_of played).past st
  kept = kept_always played.rule K played.sites played.events held.playable

  module _ (o : Operation) (here : IsIn o st.made) (site : ℕ) where
    pub world_with : IsWorld K (o ∷ st.sets site)
    world_with = world_part K (o ∷ st.sets site) st.made (λ p i. elim i [ inl e ↦ subst (λ q. IsIn q st.made) e here | inr there ↦ kept.now.within site p there ]) kept.world

    pub closed_of : IsClosed (st.sets site)
    closed_of = kept.now.closed site

    -- the book of its heap takes it as one of its heap
    pub its_book : (books : List Book) → AreBooksOf played.rule K st site books → (op : Placed) → op ≡ placed K o →
        (b : Book) × (slice_get books op.operation.heap ≡ Some b) × IsOfHeap (state_of b) op
    its_book books are op is =
        let its = kept.world.each o here in
        let number = are.number in
        let low = subst (λ h. h < K) (sym its.heap) (heap_below_key K held.playable.heaps o.key o.member) in
        let found = read_within books o.heap (omega (arith, number, low)) in
        let b : Book = found.0 in
        let book = are.each o.heap b found.1 in
        let of_heap : IsOfHeap (state_of b) (placed K o) = record {
          heap = sym book.heap;
          heaps = sym book.heaps;
          placed = ap (heap_of o.key o.member) book.heaps ∙ sym its.heap ∙ sym book.heap;
        } in
        (b, ap (λ (p : Placed). slice_get books p.operation.heap) is ∙ found.1, subst (λ (p : Placed). IsOfHeap (state_of b) p) (sym is) of_heap)

-- the list of what was made, and the books of other sites, stay
pub made_taken : (K : ℕ) (state : State) (site : ℕ) (o : Operation) (taken : Taken) → (after_taken K state site o taken).made ≡ state.made
made_taken K state site o New = elim (is_blocked K state site o.heap) as (λ b. (if b then state else counted state site o.heap (next_stamp K state site) state.made (o ∷ state.sets site)).made ≡ state.made) [ true ↦ refl | false ↦ refl ]
made_taken K state site o Known = refl
made_taken K state site o Early = refl

pub others_taken : (rule : Rule) (K : ℕ) (state : State) (site : ℕ) (o : Operation) (taken : Taken) (other : ℕ) (books : List Book) → (other == site) ≡ false →
    AreBooksOf rule K state other books → AreBooksOf rule K (after_taken K state site o taken) other books
others_taken rule K state site o New other books apart are =
    elim (is_blocked K state site o.heap) as (λ b. AreBooksOf rule K (if b then state else counted state site o.heap (next_stamp K state site) state.made (o ∷ state.sets site)) other books) [
      | true ↦ are
      | false ↦ books_of_others rule K state site o.heap (next_stamp K state site) state.made (o ∷ state.sets site) other books apart are
    ]
others_taken rule K state site o Known other books apart are = are
others_taken rule K state site o Early other books apart are = are

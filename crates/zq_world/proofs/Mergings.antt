-- A site that merges the image that another had.

use Rattle.std.proofs.Common.{List, Some, ap, arith, false, inl, inr, refl, sym, true, ℕ, ◌++◌, ◌<◌, ◌==◌, ◌∙◌, ◌≡◌}
use Rattle.std.specs.Prelude.{if◌then◌else◌, slice_get}
use Rattle.zq_model.specs.Books.{Book}
use Rattle.zq_journal.specs.Books.{state_of}
use Rattle.zq_model.proofs.Membership.{in_union}
use Rattle.zq_model.proofs.Worlds.{world_part}
use Rattle.zq_model.specs.Operation.{Operation}
use Rattle.zq_model.specs.Rule.{Rule}
use Rattle.zq_model.specs.Sets.{IsClosed, IsWorld, in_heap}
use Rattle.zq_semantics.proofs.BooksOf.{books_of_others}
use Rattle.zq_semantics.proofs.Kept.{AreOf, IsKept}
use Rattle.zq_semantics.proofs.KeptRuns.{had, kept_always}
use Rattle.zq_semantics.proofs.MovedBooks.{read_within}
use Rattle.zq_semantics.specs.Books.{AreBooksOf}
use Rattle.zq_semantics.specs.Events.{is_blocked, set_at}
use Rattle.zq_semantics.specs.State.{State, counted, next_stamp}
use Rattle.zq_shard.specs.Shard.{HeapImage, IsSameHeap}
use Rattle.zq_world.specs.Frames.{heap_at}
use Rattle.zq_world.specs.Play.{Holds, Played, run_of}
use Rattle.zq_world.specs.Steps.{merged_state}
use Rattle.zq_world.specs.declared.player.Player.{Player}

module _ (played : Played) (player : Player) (held : Holds played player) (site moment from : ℕ) where
  abbrev st : State
  st = (run_of played).now

  abbrev T : List Operation
  T = set_at (run_of played) moment from

  kept : IsKept played.heaps (run_of played).past st
  kept = kept_always played.rule played.heaps played.sites played.events held.playable

  was : AreOf st.made (λ s. set_at (run_of played) moment s)
  was = let are = had st.made (run_of played).past kept.before moment in record { within = are.within; closed = are.closed }

  pub world_both : IsWorld played.heaps (st.sets site ++ T)
  world_both = world_part played.heaps (st.sets site ++ T) st.made (λ o i. elim (in_union o (st.sets site) T i) [ inl a ↦ kept.now.within site o a | inr b ↦ was.within from o b ]) kept.world

  pub closed_here : IsClosed (st.sets site)
  closed_here = kept.now.closed site

  pub closed_there : IsClosed T
  closed_there = was.closed from

  -- the book of the heap is of its rule
  pub same_book : (heap : ℕ) → heap < played.heaps → (books : List Book) → AreBooksOf played.rule played.heaps st site books → (shard : HeapImage) → shard ≡ heap_at played.rule played.heaps T heap →
      (b : Book) × (slice_get books shard.heap ≡ Some b) × IsSameHeap (state_of b) shard × (b.rule ≡ shard.rule)
  same_book heap low books are shard is =
      let number = are.number in
      let found = read_within books heap (omega (arith, number, low)) in
      let book = are.each heap found.0 found.1 in (
        found.0,
        ap (λ (s : HeapImage). slice_get books s.heap) is ∙ found.1,
        record { heap = book.heap ∙ sym (ap (λ (s : HeapImage). s.heap) is); heaps = book.heaps ∙ sym (ap (λ (s : HeapImage). s.heaps) is) },
        book.ruled ∙ sym (ap (λ (s : HeapImage). s.rule) is),
      )

-- the list of what was made, and the books of other sites, stay
pub made_merged : (K : ℕ) (st : State) (site heap : ℕ) (T : List Operation) → (merged_state K st site heap T).made ≡ st.made
made_merged K st site heap T = elim (is_blocked K st site heap) as (λ b. (if b then st else counted st site heap (next_stamp K st site) st.made (st.sets site ++ in_heap heap T)).made ≡ st.made) [ true ↦ refl | false ↦ refl ]

pub others_merged : (rule : Rule) (K : ℕ) (st : State) (site heap : ℕ) (T : List Operation) (other : ℕ) (books : List Book) → (other == site) ≡ false →
    AreBooksOf rule K st other books → AreBooksOf rule K (merged_state K st site heap T) other books
others_merged rule K st site heap T other books apart are =
    elim (is_blocked K st site heap) as (λ b. AreBooksOf rule K (if b then st else counted st site heap (next_stamp K st site) st.made (st.sets site ++ in_heap heap T)) other books) [
      | true ↦ are
      | false ↦ books_of_others rule K st site heap (next_stamp K st site) st.made (st.sets site ++ in_heap heap T) other books apart are
    ]

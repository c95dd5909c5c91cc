-- An image that a site merges: what its books are then.

use Rattle.std.proofs.Common.{List, Some, subst, sym, true, ℕ, ◌++◌, ◌+◌, ◌<◌, ◌≡◌}
use Rattle.std.proofs.lemmas.Bool.{cond-false, cond-true}
use Rattle.std.specs.Prelude.{slice_get, slice_set}
use Rattle.zq_model.specs.Books.{Book, merged}
use Rattle.zq_model.specs.Image.{Image, image_of}
use Rattle.zq_model.specs.Operation.{Operation}
use Rattle.zq_model.specs.Rule.{Rule}
use Rattle.zq_model.specs.Sets.{IsClosed, IsWorld, in_heap}
use Rattle.zq_semantics.specs.Run.{LAST_COUNT}
use Rattle.zq_semantics.proofs.BooksOf.{books_merged}
use Rattle.zq_semantics.specs.Books.{AreBooksOf, greatest_stamp}
use Rattle.zq_semantics.specs.Events.{is_blocked}
use Rattle.zq_semantics.specs.State.{State, counted, next_stamp}
use Rattle.zq_world.proofs.Handed.{stamp_next, unblocked}
use Rattle.zq_world.specs.Steps.{merged_state}

module _ (rule : Rule) (K : ℕ) (st : State) (site heap : ℕ) (T : List Operation) (books : List Book) (are : AreBooksOf rule K st site books) where
  abbrev later : State
  later = counted st site heap (next_stamp K st site) st.made (st.sets site ++ in_heap heap T)

  -- nothing is merged where a number that is needed is at its last value
  pub merged_not : is_blocked K st site heap ≡ true → AreBooksOf rule K (merged_state K st site heap T) site books
  merged_not blocked = subst (λ s. AreBooksOf rule K s site books) (sym (cond-true (is_blocked K st site heap) st later blocked)) are

  pub merged_into : (b : Book) (stamp : ℕ) (image : Image) → slice_get books heap ≡ Some b → IsWorld K (st.sets site ++ T) → IsClosed (st.sets site) → IsClosed T → greatest_stamp books < LAST_COUNT → b.count < LAST_COUNT →
      stamp ≡ greatest_stamp books → image ≡ image_of T heap → AreBooksOf rule K (merged_state K st site heap T) site (slice_set books heap (merged b (stamp + 1) image))
  merged_into b stamp image found world closed shut below few is same =
      subst (λ s. AreBooksOf rule K s site (slice_set books heap (merged b (stamp + 1) image))) (sym (cond-false (is_blocked K st site heap) st later (unblocked rule K st site books are heap b found below few)))
      (subst (λ (a : Image). AreBooksOf rule K later site (slice_set books heap (merged b (stamp + 1) a))) (sym same)
      (subst (λ n. AreBooksOf rule K later site (slice_set books heap (merged b n (image_of T heap)))) (stamp_next rule K st site books are stamp is)
      (books_merged rule K st site books are heap (next_stamp K st site) T b world closed shut found)))

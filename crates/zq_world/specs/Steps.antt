-- What a site's books become where an operation is handed to them, or an image is merged.

use Rattle.std.specs.Prelude.{List, Ok, Option, Some, Vec, if◌then◌else◌, option_map, slice_get, ℕ, ◌++◌, ◌∷◌, ◌≡◌}
use Rattle.std.specs.declared.alloc.Global.{Global}
use Rattle.zq_model.specs.Books.{Book}
use Rattle.zq_journal.specs.Books.{state_of}
use Rattle.zq_merge.specs.State.{state_at}
use Rattle.zq_model.specs.Operation.{Operation}
use Rattle.zq_model.specs.Rule.{Rule}
use Rattle.zq_model.specs.Sets.{IsClosed, IsWorld, in_heap}
use Rattle.zq_semantics.specs.Books.{AreBooksOf}
use Rattle.zq_semantics.specs.Events.{Do, Event, Merge, Take, after_taken, answer_taken, is_blocked, judged}
use Rattle.zq_semantics.specs.State.{State, counted, next_stamp}
use Rattle.zq_shard.specs.Shard.{HeapImage}
use Rattle.zq_shard.specs.Taken.{answer_of}
use Rattle.zq_shard.specs.declared.taken.Taken.{Taken}
use Rattle.zq_world.specs.Frames.{heap_at}

-- in whatever state these are the books of a site, an operation of its world is handed to it
abbrev pub IsHanded : Operation → List Book → List Book → Option Taken → Type 0
IsHanded o old new taken =
    (rule : Rule) (K : ℕ) (st : State) (site : ℕ) → AreBooksOf rule K st site old →
    IsWorld K (o ∷ st.sets site) → IsClosed (st.sets site) →
    AreBooksOf rule K (after_taken K st site o (judged st site o)) site new
    × (option_map answer_of taken ≡ answer_taken K st site o (judged st site o))

-- the state after a site merges what another set has in a heap
abbrev pub merged_state : ℕ → State → ℕ → ℕ → List Operation → State
merged_state K st site heap T =
    if is_blocked K st site heap then st else counted st site heap (next_stamp K st site) st.made
    (st.sets site ++ in_heap heap T)

-- in whatever state these are the books of a site, it merges the image that a set of its world has
abbrev pub IsMerged : HeapImage → List Book → List Book → Type 0
IsMerged image old new =
    (rule : Rule) (K : ℕ) (st : State) (site : ℕ) (T : List Operation) →
    AreBooksOf rule K st site old → IsWorld K (st.sets site ++ T) → IsClosed (st.sets site) →
    IsClosed T →
    image ≡ heap_at rule K T image.heap →
    AreBooksOf rule K (merged_state K st site image.heap T) site new

-- the event merges no image that the sites have now, at the moment
abbrev pub IsElsewhere : List (Vec Book Global) → ℕ → Event → Type 0
IsElsewhere sites at (Do site words w1 w2) = Unit {0}
IsElsewhere sites at (Take site op) = Unit {0}
IsElsewhere sites at (Merge site from heap moment) =
    moment ≡ at → (books : Vec Book Global) (book : Book) → slice_get sites from ≡ Some books →
    slice_get books.items heap ≡ Some book → ⊥

-- the bytes are the frame of the image that the event merges, which the sites have now, at the
-- moment
abbrev pub IsFrame : List (Vec Book Global) → ℕ → Event → List ℕ → Type 0
IsFrame sites at (Do site words w1 w2) bytes = ⊥
IsFrame sites at (Take site op) bytes = ⊥
IsFrame sites at (Merge site from heap moment) bytes =
    (moment ≡ at) × ((books : Vec Book Global)
    × ((book : Book) × (slice_get sites from ≡ Some books)
    × (slice_get books.items heap ≡ Some book) × (state_at bytes ≡ Ok (state_of book))))

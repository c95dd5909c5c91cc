-- The books of a site of a world.

use Rattle.std.specs.Prelude.{List, Some, [], length, max, slice_get, ℕ, ◌∷◌, ◌≡◌, ◌≤◌}
use Rattle.zq_model.specs.Books.{Book}
use Rattle.zq_model.specs.Image.{image_of}
use Rattle.zq_model.specs.Operation.{IsAct, LONGEST}
use Rattle.zq_model.specs.Rule.{Rule}
use Rattle.zq_model.specs.Sets.{IsCounters, IsIn}
use Rattle.zq_model.specs.Moves.{Move}
use Rattle.zq_semantics.specs.Run.{LAST_COUNT}
use Rattle.zq_semantics.specs.State.{State}

-- the book of the site's heap h: it has the image of the site's set there, and the heap's stamp and
-- count
pub record IsBookOf (rule : Rule) (K : ℕ) (st : State) (site h : ℕ) (b : Book) : Type 0 where
  pub heap : b.heap ≡ h
  pub heaps : b.heaps ≡ K
  pub ruled : b.rule ≡ rule
  pub state : b.state ≡ image_of (st.sets site) h
  pub stamp : b.stamp ≡ st.stamps site h
  pub count : b.count ≡ st.counts site h

-- the books of the site's heaps, in order
pub record AreBooksOf (rule : Rule) (K : ℕ) (st : State) (site : ℕ) (books : List Book) : Type 0
  where
    pub number : length books ≡ K
    pub each : (h : ℕ) (b : Book) → slice_get books h ≡ Some b → IsBookOf rule K st site h b

-- no number of the books is past its last value
abbrev pub AreUnworn : List Book → Type 0
AreUnworn books = (b : Book) → IsIn b books → IsCounters b.state.vector × (b.count ≤ LAST_COUNT)

-- an act in range on a short name
pub record IsSoundMove (move : Move) : Type 0 where
  pub act : IsAct move.act
  pub key : length move.key ≤ LONGEST
  pub member : length move.member ≤ LONGEST

abbrev pub AreSound : List Move → Type 0
AreSound moves = (move : Move) → IsIn move moves → IsSoundMove move

-- the greatest stamp of the books, and 0 for none
abbrev pub greatest_stamp : List Book → ℕ
greatest_stamp [] = 0
greatest_stamp (b ∷ books) = max b.stamp (greatest_stamp books)

-- What a stage has of a heap that comes to it in pieces, with operations between them.

use Rattle.std.specs.FinMap.{get}
use Rattle.std.specs.Prelude.{List, Some, false, true, ℕ, ◌≡◌}
use Rattle.zq_model.specs.Entry.{Addition}
use Rattle.zq_model.specs.Image.{Entry, Place, entry_of, image_of, unless_bare}
use Rattle.zq_model.specs.Joining.{HasAddition, IsKnown}
use Rattle.zq_model.specs.Operation.{Operation}
use Rattle.zq_model.specs.Rows.{Row}
use Rattle.zq_model.specs.Sets.{IsClosed, IsWorld, covers, vector_of}
use Rattle.zq_shard.specs.Shard.{HeapImage}
use Rattle.zq_stage.specs.Rows.{has_row, newer_than}

-- The stage was begun at the vector v, and these rows came to it. S is a closed set of its vector:
-- each member of a row has what it has in the image of S, and each other one those of its additions
-- there whose dots v has not.
pub record IsStaged (v : List ℕ) (rows : List Row) (S : List Operation) (s : HeapImage) : Type 0
  where
    pub world : IsWorld s.heaps S
    pub closed : IsClosed S
    pub begun : covers (vector_of S s.heap) v ≡ true
    pub vector : s.image.vector ≡ vector_of S s.heap
    pub brought : (q : Place) → has_row rows q ≡ true →
        get s.image.members q ≡ unless_bare (entry_of S s.heap q)
    pub others : (q : Place) → has_row rows q ≡ false →
        get s.image.members q ≡ unless_bare (newer_than v (entry_of S s.heap q))

-- some members of the image of a closed set, with all that they have there
pub record IsPieceOf (T : List Operation) (s : HeapImage) : Type 0 where
  pub world : IsWorld s.heaps T
  pub closed : IsClosed T
  pub vector : s.image.vector ≡ vector_of T s.heap
  pub rows : (q : Place) (entry : Entry) → get s.image.members q ≡ Some entry →
      get (image_of T s.heap).members q ≡ Some entry

-- each member of the image of S that has an addition whose dot v has is in a row
abbrev pub AreAllBrought : List ℕ → List Row → List Operation → ℕ → Type 0
AreAllBrought v rows S heap = (k m : List ℕ) (site : ℕ) (x : Addition) →
    HasAddition (image_of S heap) k m site x → IsKnown v site x.n → has_row rows (k, m) ≡ true

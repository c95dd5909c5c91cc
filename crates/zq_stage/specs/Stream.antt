-- All that a stage hears, one after the other.

use Rattle.std.specs.Prelude.{List, [], ◌++◌, ◌∷◌, ◌≡◌, ◌≢◌}
use Rattle.zq_model.specs.Image.{image_taken}
use Rattle.zq_model.specs.Operation.{Operation}
use Rattle.zq_model.specs.Rows.{Row, rows_of}
use Rattle.zq_model.specs.Sets.{Early, IsIn, taken_of}
use Rattle.zq_shard.specs.Shard.{HeapImage, IsSameHeap}
use Rattle.zq_stage.specs.Rows.{with_image, with_rows}
use Rattle.zq_stage.specs.Staged.{IsPieceOf}

-- an operation, or a piece of the image of a set
pub data Heard : Type 0 where
  Took : (o : Operation) → Heard
  Came : (T : List Operation) → (piece : HeapImage) → Heard

-- the stage after it
abbrev pub after_heard : Heard → HeapImage → HeapImage
after_heard (Took o) s = with_image s (image_taken o s.image)
after_heard (Came T piece) s = with_image s (with_rows (rows_of piece.image) s.image)

abbrev pub after_all : List Heard → HeapImage → HeapImage
after_all [] s = s
after_all (x ∷ heard) s = after_all heard (after_heard x s)

-- the set behind it, and the rows that came
abbrev pub set_after : List Heard → List Operation → List Operation
set_after [] S = S
set_after (Took o ∷ heard) S = set_after heard (o ∷ S)
set_after (Came T piece ∷ heard) S = set_after heard S

abbrev pub rows_after : List Heard → List Row → List Row
rows_after [] rows = rows
rows_after (Took o ∷ heard) rows = rows_after heard rows
rows_after (Came T piece ∷ heard) rows = rows_after heard (rows_of piece.image ++ rows)

-- the stage takes it: an operation of its heap with no gap before it, or a piece of its heap at its
-- vector; and it is of the world W
abbrev pub Fits : List Operation → HeapImage → Heard → Type 0
Fits W s (Took o) = IsIn o W × (o.heap ≡ s.heap) × (taken_of s.image.vector o ≢ Early)
Fits W s (Came T piece) = ((o : Operation) → IsIn o T → IsIn o W) × IsPieceOf T piece
    × IsSameHeap s piece × (s.image.vector ≡ piece.image.vector)

abbrev pub AllFit : List Operation → HeapImage → List Heard → Type 0
AllFit W s [] = Unit {0}
AllFit W s (x ∷ heard) = Fits W s x × AllFit W (after_heard x s) heard

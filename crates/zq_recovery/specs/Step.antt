-- What operations and pieces make of the stages of a site's heaps, of which there is one at the
-- place of each heap.

use Rattle.std.specs.Prelude.{Bool, List, Some, [], slice_get, slice_set, true, ℕ, ◌&&◌, ◌==◌, ◌∷◌, ◌≡◌, ◌≢◌, ◌⊎◌}
use Rattle.zq_dots.specs.Placed.{Placed}
use Rattle.zq_entries.specs.declared.sealed.Sealed.{Sealed}
use Rattle.zq_links.specs.declared.piece.Piece.{Piece}
use Rattle.zq_links.specs.declared.spot.Spot.{Spot}
use Rattle.zq_model.specs.Image.{image_taken}
use Rattle.zq_model.specs.Operation.{Operation}
use Rattle.zq_model.specs.Rows.{rows_of}
use Rattle.zq_model.specs.Sets.{Early, covers, taken_of}
use Rattle.zq_shard.specs.Shard.{IsSameHeap}
use Rattle.zq_stage.specs.Piece.{IsNextPiece, Staged, after_piece, holding}
use Rattle.zq_stage.specs.Rows.{with_rows}

-- ---- operations

-- the stage after it
abbrev pub took : Operation → Staged → Staged
took o t = holding (image_taken o t.held.image) t

-- none before it is missing
pub record Takes (o : Placed) (old new : Staged) : Type 0 where
  pub late : taken_of old.held.image.vector o.operation ≢ Early
  pub stage : new ≡ took o.operation old

-- in the stage of its heap
pub record TakesOne (o : Placed) (old new : List Staged) : Type 0 where
  pub before : Staged
  pub after : Staged
  pub there : slice_get old o.operation.heap ≡ Some before
  pub takes : Takes o before after
  pub stages : new ≡ slice_set old o.operation.heap after

-- one after the other
abbrev pub TakesAll : List Placed → List Staged → List Staged → Type 0
TakesAll [] old new = new ≡ old
TakesAll (o ∷ ops) old new = (next : List Staged) × TakesOne o old next × TakesAll ops next new

abbrev pub TakesEach : List (List Placed) → List Staged → List Staged → Type 0
TakesEach [] old new = new ≡ old
TakesEach (ops ∷ batches) old new =
    (next : List Staged) × TakesAll ops old next × TakesEach batches next new

-- ---- pieces

-- nothing is left at the spot
abbrev pub is_end : Spot → Bool
is_end s = (s.key == 0) && (s.member == 0)

-- the stage that the first piece of a stream begins
abbrev pub begun : Piece → Staged
begun p = record { held = p.part; life = p.life; next = 1; whole = is_end p.next }

-- it is the first of a stream, of the same heap and rule, and knows all that the stage has
pub record Begins (p : Piece) (old new : Staged) : Type 0 where
  pub first : p.number ≡ 0
  pub heap : IsSameHeap old.held p.part
  pub rule : old.held.rule ≡ p.part.rule
  pub covers_old : covers p.part.image.vector old.held.image.vector ≡ true
  pub stage : new ≡ begun p

-- it is the next one of the stream
pub record GoesOn (p : Piece) (old new : Staged) : Type 0 where
  pub later : p.number ≢ 0
  pub next : IsNextPiece old p.life p.number p.part
  pub stage : new
      ≡ after_piece (with_rows (rows_of p.part.image) old.held.image) (is_end p.next) old

-- the stage of its heap after a piece
pub record Comes (p : Piece) (old new : List Staged) : Type 0 where
  pub before : Staged
  pub after : Staged
  pub there : slice_get old p.part.heap ≡ Some before
  pub comes : Begins p before after ⊎ GoesOn p before after
  pub stages : new ≡ slice_set old p.part.heap after

-- ---- whole heaps

-- all pieces of the heap came, and it has just the vector's operations
pub record IsWhole (w : Sealed) (stages : List Staged) : Type 0 where
  pub stage : Staged
  pub there : slice_get stages w.heap.heap ≡ Some stage
  pub heaps : stage.held.heaps ≡ w.heap.heaps
  pub whole : stage.whole ≡ true
  pub vector : stage.held.image.vector ≡ w.vector

-- all pieces of all heaps came
abbrev pub AreWhole : List Staged → Type 0
AreWhole stages = (h : ℕ) (t : Staged) → slice_get stages h ≡ Some t → t.whole ≡ true

-- What operations make of the outlines of a site's heaps.

use Rattle.std.specs.Prelude.{Bool, List, None, Option, Some, [], false, filter, length, slice_get, slice_set, true, ℕ, ◌<◌, ◌^◌, ◌∷◌, ◌≡◌, ◌≢◌}
use Rattle.zq_dots.specs.Placed.{IsRanged, Placed}
use Rattle.zq_entries.specs.Together.{AreTogether, batch_of}
use Rattle.zq_keeper.specs.declared.next.Part.{Part}
use Rattle.zq_keeper.specs.declared.next.Part.TheVariants.{Coming, Sealed, Waiting}
use Rattle.zq_keeper.specs.declared.outline.Outline.{Outline}
use Rattle.zq_model.specs.Heaps as place
use Rattle.zq_model.specs.Operation.{Operation}
use Rattle.zq_model.specs.Sets.{Early, Known, New, Taken, taken_of}
use Rattle.zq_recovery.specs.declared.opening.Identity.{Identity}

-- ---- one heap

-- the vector after an operation: what is known or early changes nothing
abbrev pub vector_when : Taken → Operation → List ℕ → List ℕ
vector_when New o v = slice_set v o.site o.n
vector_when Known o v = v
vector_when Early o v = v

abbrev pub vector_taken : Operation → List ℕ → List ℕ
vector_taken o v = vector_when (taken_of v o) o v

abbrev pub outline_taken : Operation → Outline → Outline
outline_taken o x = record x { vector = vector_taken o x.vector }

-- none before it is missing
pub record Takes (p : Placed) (old new : Outline) : Type 0 where
  pub late : taken_of old.vector p.operation ≢ Early
  pub outline : new ≡ outline_taken p.operation old

-- ---- all heaps

-- it is of a site with so many heaps, and lies where its member's hash says
pub record IsPlaced (i : Identity) (p : Placed) : Type 0 where
  pub heaps : p.heaps ≡ i.heaps
  pub placed : place.heap_of p.operation.key p.operation.member i.heaps ≡ p.operation.heap

-- in the outline of its heap
pub record TakesOp (i : Identity) (p : Placed) (old new : List Outline) : Type 0 where
  pub ranged : IsRanged p
  pub placed : IsPlaced i p
  pub before : Outline
  pub after : Outline
  pub there : slice_get old p.operation.heap ≡ Some before
  pub takes : Takes p before after
  pub outlines : new ≡ slice_set old p.operation.heap after

-- one after the other
abbrev pub TakesOps : Identity → List Placed → List Outline → List Outline → Type 0
TakesOps i [] old new = new ≡ old
TakesOps i (p ∷ ops) old new =
    (next : List Outline) × TakesOp i p old next × TakesOps i ops next new

abbrev pub TakesEach : Identity → List (List Placed) → List Outline → List Outline → Type 0
TakesEach i [] old new = new ≡ old
TakesEach i (ops ∷ batches) old new =
    (next : List Outline) × TakesOps i ops old next × TakesEach i batches next new

-- they have a spelling together, of which eight bytes hold the length
pub record IsShort (ops : List Placed) : Type 0 where
  pub together : AreTogether ops
  pub short : length (batch_of ops) < 2 ^ 64

-- ---- the next file

abbrev pub is_begun : Part → Bool
is_begun Waiting = false
is_begun Coming = true
is_begun Sealed = true

abbrev pub is_sealed : Part → Bool
is_sealed Waiting = false
is_sealed Coming = false
is_sealed Sealed = true

abbrev pub is_begun_part : Option Part → Bool
is_begun_part None = false
is_begun_part (Some part) = is_begun part

-- whether the pieces of the batch's heap have begun
abbrev pub is_chosen : List Part → List Placed → Bool
is_chosen parts [] = false
is_chosen parts (p ∷ ops) = is_begun_part (slice_get parts p.operation.heap)

-- those batches
abbrev pub chosen : List Part → List (List Placed) → List (List Placed)
chosen parts batches = filter (is_chosen parts) batches

abbrev pub AreSealed : List Part → Type 0
AreSealed parts = (h : ℕ) (part : Part) → slice_get parts h ≡ Some part → is_sealed part ≡ true

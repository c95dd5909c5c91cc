-- What is proved of what a keeper wrote.

use Rattle.std.specs.Prelude.{List, Ok, Option, Some, drop, slice_get, slice_index, ℕ, ◌+◌, ◌<◌, ◌≡◌, ◌≤◌}
use Rattle.zq_entries.specs.Entry.{Entry, OfPiece, OfRest, OfRound, OfSealed, OfStart}
use Rattle.zq_entries.specs.Reading.{entry_at}
use Rattle.zq_entries.specs.declared.start.Start.{Start}
use Rattle.zq_keeper.specs.Outline.{Cover, outlines_of}
use Rattle.zq_keeper.specs.Read.{HasRead, IsBlank, IsReadAs, Reads}
use Rattle.zq_keeper.specs.declared.outline.Outline.{Outline}
use Rattle.zq_keeper.specs.declared.reader.Reader.{Reader}
use Rattle.zq_links.specs.declared.piece.Piece.{Piece}
use Rattle.zq_model.specs.Operation.{Operation}
use Rattle.zq_model.specs.Sets.{HasDot, IsClosed, IsIn, IsWorld}
use Rattle.zq_recovery.specs.Behind.{Behind}
use Rattle.zq_recovery.specs.Laws.{EachOfWorld}
use Rattle.zq_shard.specs.Shard.{HoldsImage}
use Rattle.zq_stage.specs.Piece.{Staged}
use Rattle.zq_stage.specs.Staged.{AreAllBrought, IsPieceOf}
use Rattle.zq_wal.specs.Replay.{Replayed}

-- ---- what a keeper wrote is read

-- the reader takes all of the records
pub record IsTaken (payloads : List (List ℕ)) (first : Reader) : Type 0 where
  pub last : Reader
  pub read : Replayed Reads first payloads last

-- each reader of the site of which nothing was read does
abbrev pub AreTaken : Type 0
AreTaken = (payloads : List (List ℕ)) (start : Option Start) (outlines : List Outline)
    (first : Reader) → IsReadAs first.recovery.identity payloads start outlines →
    IsBlank first → IsTaken payloads first

-- and whichever way they are read, that is then said
pub record SaysOf (s : Option Start) (said : List Outline) (r : Reader) : Type 0 where
  pub start : r.recovery.start ≡ s
  pub outlines : outlines_of r.recovery.stages.items ≡ said

abbrev pub SaysThat : Type 0
SaysThat = (payloads : List (List ℕ)) (start : Option Start) (outlines : List Outline)
    (last : Reader) → IsReadAs last.recovery.identity payloads start outlines →
    HasRead payloads last → SaysOf start outlines last

-- ---- what was told is there again

-- the operations of a round are of the world, and those of the set that a piece is of
abbrev pub IsOfWorld : List Operation → (Piece → List Operation) → Entry → Type 0
IsOfWorld W of (OfStart s) = Unit {0}
IsOfWorld W of (OfRound batches) = EachOfWorld W batches
IsOfWorld W of (OfPiece p) = ((o : Operation) → IsIn o (of p) → IsIn o W)
    × IsPieceOf (of p) p.part
IsOfWorld W of (OfSealed w) = Unit {0}
IsOfWorld W of OfRest = Unit {0}

-- so are all entries of these records
abbrev pub AreOfWorld : List Operation → (Piece → List Operation) → List (List ℕ) → Type 0
AreOfWorld W of payloads = (payload : List ℕ) (e : Entry) → IsIn payload payloads →
    entry_at (drop 8 payload) ≡ Ok e → IsOfWorld W of e

-- A heap that was read is that of a closed set of the world. The set has the operation of each dot
-- that was told; the next counter of each site is above all that the set has of it, and all that
-- were told; and where all pieces brought all, the heap is the image of the set.
pub record IsRegained (K h : ℕ) (W : List Operation) (told : List ℕ) (t : Staged) : Type 0 where
  pub behind : Behind
  pub within : (o : Operation) → IsIn o behind.set → IsIn o W
  pub world : IsWorld K behind.set
  pub closed : IsClosed behind.set
  pub has : (s n : ℕ) → 1 ≤ n → n ≤ slice_index told s → HasDot behind.set h s n
  pub fresh : (o : Operation) → IsIn o behind.set → o.heap ≡ h →
      o.n < slice_index t.held.image.vector o.site + 1
  pub above : (s : ℕ) → slice_index told s < slice_index t.held.image.vector s + 1
  pub holds : AreAllBrought behind.begun behind.rows behind.set h → HoldsImage t.held behind.set

-- in its place
pub record IsThere (K h : ℕ) (W : List Operation) (told : List ℕ) (stages : List Staged) : Type 0
  where
    pub stage : Staged
    pub there : slice_get stages h ≡ Some stage
    pub regained : IsRegained K h W told stage

abbrev pub IsAgain : Type 0
IsAgain = (payloads : List (List ℕ)) (start : Option Start) (said told : List Outline)
    (W : List Operation) (of : Piece → List Operation) (last : Reader) →
    IsReadAs last.recovery.identity payloads start said → Cover said told →
    HasRead payloads last → IsWorld last.recovery.identity.heaps W → AreOfWorld W of payloads →
    (h : ℕ) (x : Outline) → slice_get told h ≡ Some x →
    IsThere last.recovery.identity.heaps h W x.vector last.recovery.stages.items

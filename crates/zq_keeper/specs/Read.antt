-- What the records of a log say when they are read again.

use Rattle.std.specs.Prelude.{IsSome, List, None, Ok, Option, Some, [], drop, length, ℕ, ◌∷◌, ◌≡◌}
use Rattle.zq_entries.specs.Entry.{Entry, OfPiece, OfRest, OfRound, OfSealed, OfStart, start_of}
use Rattle.zq_entries.specs.Reading.{entry_at}
use Rattle.zq_entries.specs.Spelling.{entry_bytes}
use Rattle.zq_entries.specs.declared.start.Start.{Start}
use Rattle.zq_keeper.specs.Operations.{TakesEach}
use Rattle.zq_keeper.specs.Outline.{AreAllWhole, AreOutlined}
use Rattle.zq_keeper.specs.Pieces.{Comes, IsWhole}
use Rattle.zq_keeper.specs.declared.outline.Outline.{Outline}
use Rattle.zq_keeper.specs.declared.reader.Reader.{Reader}
use Rattle.zq_model.specs.Sets.{IsHeaps}
use Rattle.zq_recovery.specs.Opening.{AreEmpty, IsNextStart}
use Rattle.zq_recovery.specs.Step as step
use Rattle.zq_recovery.specs.declared.opening.Identity.{Identity}
use Rattle.zq_stage.specs.Piece.{Staged}
use Rattle.zq_wal.specs.Replay.{Replayed}

-- ---- reading, as `zq_recovery` has it

-- what an entry makes of the stages
abbrev pub Does : Entry → List Staged → List Staged → Type 0
Does (OfStart s) old new = new ≡ old
Does (OfRound batches) old new = step.TakesEach batches old new
Does (OfPiece p) old new = step.Comes p old new
Does (OfSealed w) old new = step.IsWhole w old × (new ≡ old)
Does OfRest old new = step.AreWhole old × (new ≡ old)

-- a start of the site that the settings say, behind the one before
pub record OpensBy (i : Identity) (old new : Option Start) (t : Start) : Type 0 where
  pub after : IsNextStart i old t
  pub noted : new ≡ Some t

-- a start follows those before it, and every other entry some start
abbrev pub Opens : Identity → Entry → Option Start → Option Start → Type 0
Opens i (OfStart s) old new = (t : Start) × (start_of t ≡ s) × OpensBy i old new t
Opens i (OfRound batches) old new = IsSome old × (new ≡ old)
Opens i (OfPiece p) old new = IsSome old × (new ≡ old)
Opens i (OfSealed w) old new = IsSome old × (new ≡ old)
Opens i OfRest old new = IsSome old × (new ≡ old)

-- behind its floor the payload is read as an entry, which does this
pub record Takes (i : Identity) (payload : List ℕ) (old : Option Start) (before : List Staged)
    (new : Option Start) (after : List Staged) : Type 0 where
  pub entry : Entry
  pub read : entry_at (drop 8 payload) ≡ Ok entry
  pub opens : Opens i entry old new
  pub does : Does entry before after

-- one after the other
abbrev pub TakesAll : Identity → List (List ℕ) → Option Start → List Staged → Option Start →
    List Staged → Type 0
TakesAll i [] old before new after = (new ≡ old) × (after ≡ before)
TakesAll i (payload ∷ payloads) old before new after =
    (start : Option Start) × (stages : List Staged) × Takes i payload old before start stages
    × TakesAll i payloads start stages new after

-- what a reader makes of a payload
pub record Reads (old : Reader) (payload : List ℕ) (new : Reader) : Type 0 where
  pub identity : new.recovery.identity ≡ old.recovery.identity
  pub takes : Takes old.recovery.identity payload old.recovery.start old.recovery.stages.items
      new.recovery.start new.recovery.stages.items

-- the stages of a site of which nothing was read
pub record AreBlank (i : Identity) (stages : List Staged) : Type 0 where
  pub number : length stages ≡ i.heaps
  pub empty : AreEmpty i stages

pub record IsBlank (r : Reader) : Type 0 where
  pub heaps : IsHeaps r.recovery.identity.heaps
  pub start : r.recovery.start ≡ None
  pub blank : AreBlank r.recovery.identity r.recovery.stages.items

-- it has read these records, from the first to the last
pub record HasRead (payloads : List (List ℕ)) (r : Reader) : Type 0 where
  pub first : Reader
  pub blank : IsBlank first
  pub read : Replayed Reads first payloads r

-- ---- what is written

-- the bytes are this entry, and are read as it
pub record IsSpelled (e : Entry) (bytes : List ℕ) : Type 0 where
  pub spelled : bytes ≡ entry_bytes e
  pub read : entry_at bytes ≡ Ok e

-- where the log says this of its heaps the entry is taken, and then it says that
abbrev pub Says : Identity → Entry → List Outline → List Outline → Type 0
Says i (OfStart s) old new = new ≡ old
Says i (OfRound batches) old new = TakesEach i batches old new
Says i (OfPiece p) old new = Comes i p old new
Says i (OfSealed w) old new = IsWhole i w old × (new ≡ old)
Says i OfRest old new = AreAllWhole old × (new ≡ old)

-- the same of the site and its heaps
pub record Turns (i : Identity) (e : Entry) (start : Option Start) (old : List Outline)
    (later : Option Start) (new : List Outline) : Type 0 where
  pub opens : Opens i e start later
  pub says : Says i e old new

-- The records are taken from the first to the last, and then this is said of the site and its
-- heaps.
pub record IsReadAs (i : Identity) (payloads : List (List ℕ)) (start : Option Start)
    (outlines : List Outline) : Type 0 where
  pub first : List Staged
  pub last : List Staged
  pub blank : AreBlank i first
  pub taken : TakesAll i payloads None first start last
  pub outlined : AreOutlined i outlines last

-- Reading an entry from left to right, with the first fault that is met.

use Rattle.std.specs.Option.{ok_or}
use Rattle.std.specs.Prelude.{Err, List, Ok, Result, [], if◌then◌else◌, length, suc, zero, ℕ, ◌++◌, ◌==◌, ◌∷◌}
use Rattle.zq_batch.specs.Reading.{batch_at}
use Rattle.zq_batch.specs.declared.fault.BatchFault.{BatchFault}
use Rattle.zq_dots.specs.Placed.{Placed}
use Rattle.zq_entries.specs.Entry.{Entry, OfPiece, OfRest, OfRound, OfSealed, OfStart, Start}
use Rattle.zq_entries.specs.Kind.{kind_of}
use Rattle.zq_entries.specs.Parts.{block_at, count_at, identity_at, sealed_at}
use Rattle.zq_entries.specs.Spelling.{FORMAT}
use Rattle.zq_entries.specs.declared.fault.EntryFault.{EntryFault}
use Rattle.zq_entries.specs.declared.fault.EntryFault.TheVariants as entry
use Rattle.zq_entries.specs.declared.kind.Kind.{Kind}
use Rattle.zq_entries.specs.declared.kind.Kind.TheVariants as kind
use Rattle.zq_fields.specs.Fields.{byte_field}
use Rattle.zq_fields.specs.Reading.{place}
use Rattle.zq_fields.specs.declared.fault.PartFault.{PartFault}
use Rattle.zq_fields.specs.declared.fault.PartFault.TheVariants.{Field, Length, Score, Short}
use Rattle.zq_links.specs.PieceReading.{piece_at}
use Rattle.zq_links.specs.declared.frame_fault.FrameFault.{FrameFault}
use Rattle.zq_links.specs.declared.piece.Piece.{Piece}

-- what is read at the front of the bytes, or the fault
abbrev pub Read : Type 0 → Type 0
Read X = Result (X × List ℕ) EntryFault

infixl 10 ◌>>=◌
abbrev pub ◌>>=◌ : {X Y : Type 0} → Result X EntryFault → (X → Result Y EntryFault) →
    Result Y EntryFault
(Ok x) >>= f = f x
(Err fault) >>= f = Err fault

-- The fault of a part is the entry's. No part of an entry has a text or a score.
abbrev pub fault_of : PartFault → EntryFault
fault_of Short = entry.Short
fault_of (Field place) = entry.Field place
fault_of Length = entry.Short
fault_of Score = entry.Short

abbrev pub of_part : {X : Type 0} → Result X PartFault → Result X EntryFault
of_part (Ok x) = Ok x
of_part (Err fault) = Err (fault_of fault)

-- the fault of the batch at this place
abbrev pub of_batch : {X : Type 0} → ℕ → Result X BatchFault → Result X EntryFault
of_batch at (Ok x) = Ok x
of_batch at (Err fault) = Err (entry.Batch at fault)

abbrev pub of_piece : Result Piece FrameFault → Result Entry EntryFault
of_piece (Ok p) = Ok (OfPiece p)
of_piece (Err fault) = Err (entry.Piece fault)

abbrev pub kind_at : List ℕ → Read Kind
kind_at bytes = do
  b ← ok_or (byte_field bytes) entry.Short
  k ← ok_or (kind_of b.0) entry.Kind
  Ok (k, b.1)

-- ---- a start

-- the format is the first one
abbrev pub behind_format : List ℕ → Result (List ℕ) EntryFault
behind_format [] = Err entry.Short
behind_format (b ∷ bytes) = if b == FORMAT then Ok bytes else Err entry.Format

abbrev pub start_at : ℕ → List ℕ → Read Start
start_at whole bytes = behind_format bytes >>= λ rest. of_part (identity_at whole rest)

-- ---- a round

-- a batch behind its length, which stands at its place
unfoldable pub batch_in : ℕ → List ℕ → Read (List Placed)
batch_in whole bytes = do
  b ← of_part (block_at bytes)
  ops ← of_batch (place whole bytes) (batch_at b.0)
  Ok (ops, b.1)

-- k batches after these
unfoldable pub batches_at : ℕ → ℕ → List (List Placed) → List ℕ → Read (List (List Placed))
batches_at whole zero before bytes = Ok (before, bytes)
batches_at whole (suc k) before bytes = do
  ops ← batch_in whole bytes
  batches_at whole k (before ++ ops.0 ∷ []) ops.1

-- the number of batches, and as many
abbrev pub round_at : ℕ → List ℕ → Read (List (List Placed))
round_at whole bytes =
    of_part (count_at whole bytes) >>= λ count. batches_at whole count.0 [] count.1

-- ---- entries

-- nothing follows
abbrev pub end_at : Entry → List ℕ → Result Entry EntryFault
end_at e [] = Ok e
end_at e (b ∷ bytes) = Err entry.Rest

-- What follows the kind, in an entry of so many bytes, and nothing more. A piece is the whole
-- entry, its kind with it.
abbrev pub body_at : Kind → List ℕ → List ℕ → Result Entry EntryFault
body_at kind.Start all bytes = start_at (length all) bytes >>= λ s. end_at (OfStart s.0) s.1
body_at kind.Round all bytes = round_at (length all) bytes >>= λ b. end_at (OfRound b.0) b.1
body_at kind.Sealed all bytes =
    of_part (sealed_at (length all) bytes) >>= λ w. end_at (OfSealed w.0) w.1
body_at kind.Rest all bytes = end_at OfRest bytes
body_at kind.Piece all bytes = of_piece (piece_at all)

-- the entry that the bytes are
abbrev pub entry_at : List ℕ → Result Entry EntryFault
entry_at bytes = kind_at bytes >>= λ k. body_at k.0 bytes k.1

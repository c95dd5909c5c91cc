-- What a reader returned, seen by view, beside what reading gives, and where there was no memory
-- for what was read.

use Rattle.std.specs.Prelude.{Err, IsOk, List, Ok, Result, length, ℕ, ◌≡◌, ◌⊎◌}
use Rattle.zq_batch.specs.declared.fault.BatchFault.TheVariants as batch
use Rattle.zq_entries.specs.Parts.{count_at}
use Rattle.zq_entries.specs.Reading.{kind_at}
use Rattle.zq_entries.specs.declared.fault.EntryFault.{EntryFault}
use Rattle.zq_entries.specs.declared.fault.EntryFault.TheVariants as entry
use Rattle.zq_entries.specs.declared.kind.Kind as kinds
use Rattle.zq_entries.specs.declared.kind.Kind.TheVariants as kind
use Rattle.zq_links.specs.PieceReading as piece
use Rattle.zq_links.specs.declared.frame_fault.FrameFault.{FrameFault}

-- the value or the fault is that of reading
abbrev pub Gives : {X Y : Type 0} → (X → Y) → Result X EntryFault → Result Y EntryFault → Type 0
Gives view (Ok x) read = read ≡ Ok (view x)
Gives view (Err fault) read = read ≡ Err fault

-- the value or the fault is that of reading, or the fault is one of those where there was no memory
abbrev pub Answers : {X Y : Type 0} → (EntryFault → Type 0) → (X → Y) → Result X EntryFault →
    Result Y EntryFault → Type 0
Answers Memory view (Ok x) read = read ≡ Ok (view x)
Answers Memory view (Err fault) read = Memory fault ⊎ (read ≡ Err fault)

-- ---- where there was no memory

-- for a batch, or for the list of them
abbrev pub IsOfBatches : EntryFault → Type 0
IsOfBatches fault = (fault ≡ entry.NoMemory)
    ⊎ ((at : ℕ) × (fault ≡ entry.Batch at batch.NoMemory))

-- For the batches of a round, whose number is read; for the state of a piece, where all before the
-- field that asked for some is read. Other entries take no memory.
abbrev pub IsOfMemoryIn : kinds.Kind → List ℕ → List ℕ → EntryFault → Type 0
IsOfMemoryIn kind.Start all bytes fault = ⊥
IsOfMemoryIn kind.Round all bytes fault = IsOk (count_at (length all) bytes) × IsOfBatches fault
IsOfMemoryIn kind.Sealed all bytes fault = ⊥
IsOfMemoryIn kind.Rest all bytes fault = ⊥
IsOfMemoryIn kind.Piece all bytes fault =
    (inner : FrameFault) × piece.IsOfMemory all inner × (fault ≡ entry.Piece inner)

-- where these bytes were read
abbrev pub IsOfMemory : List ℕ → EntryFault → Type 0
IsOfMemory bytes fault = (k : kinds.Kind) × (rest : List ℕ) × (kind_at bytes ≡ Ok (k, rest))
    × IsOfMemoryIn k bytes rest fault

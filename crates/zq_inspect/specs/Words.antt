-- What is wrong with a log, in words.

use Rattle.std.specs.Prelude.{Bool, List, None, Option, Some, codes, false, true, ℕ}
use Rattle.zq_batch.specs.declared.fault.BatchFault.{BatchFault}
use Rattle.zq_batch.specs.declared.fault.BatchFault.TheVariants as batch
use Rattle.zq_entries.specs.declared.fault.EntryFault.{EntryFault}
use Rattle.zq_entries.specs.declared.fault.EntryFault.TheVariants as entry
use Rattle.zq_inspect.specs.declared.state.State.{State}
use Rattle.zq_inspect.specs.declared.state.State.TheVariants.{Damaged, Empty, Refused, Torn, Whole}
use Rattle.zq_links.specs.declared.frame_fault.FrameFault.{FrameFault}
use Rattle.zq_links.specs.declared.frame_fault.FrameFault.TheVariants as frame
use Rattle.zq_merge.specs.declared.fault.StateFault.{StateFault}
use Rattle.zq_merge.specs.declared.fault.StateFault.TheVariants as merge
use Rattle.zq_recovery.specs.declared.refusal.Refusal.{Refusal}
use Rattle.zq_recovery.specs.declared.refusal.Refusal.TheVariants as refusal
use Rattle.zq_stage.specs.declared.faults.PieceFault.{PieceFault}
use Rattle.zq_stage.specs.declared.faults.PieceFault.TheVariants as piece

-- ---- where there was no memory

abbrev pub is_short_batch : BatchFault → Bool
is_short_batch batch.NoMemory = true
is_short_batch _ = false

abbrev pub is_short_state : StateFault → Bool
is_short_state merge.NoMemory = true
is_short_state _ = false

abbrev pub is_short_frame : FrameFault → Bool
is_short_frame frame.NoMemory = true
is_short_frame (frame.State fault) = is_short_state fault
is_short_frame _ = false

abbrev pub is_short_entry : EntryFault → Bool
is_short_entry entry.NoMemory = true
is_short_entry (entry.Batch at fault) = is_short_batch fault
is_short_entry (entry.Piece fault) = is_short_frame fault
is_short_entry _ = false

abbrev pub is_short_piece : PieceFault → Bool
is_short_piece piece.NoMemory = true
is_short_piece _ = false

abbrev pub is_short_of : Refusal → Bool
is_short_of refusal.NoMemory = true
is_short_of (refusal.Entry fault) = is_short_entry fault
is_short_of (refusal.Piece fault) = is_short_piece fault
is_short_of _ = false

-- ---- words

abbrev pub entry_text : EntryFault → List ℕ
entry_text entry.Format = codes "a record is of a newer version"
entry_text _ = codes "a record is no entry of a log"

abbrev pub refusal_text : Refusal → List ℕ
refusal_text (refusal.Entry fault) = entry_text fault
refusal_text refusal.NoStart = codes "the first record is none of a start"
refusal_text refusal.OtherSite = codes "a start is of another site than the first one"
refusal_text refusal.OtherHeaps = codes "a start has another number of heaps than the first one"
refusal_text refusal.OtherRule = codes "a start has another rule than the first one"
refusal_text refusal.OtherFolder = codes "a start is of another folder than the first one"
refusal_text refusal.OldStart = codes "a start has no higher number than the one before"
refusal_text refusal.WrongHeap = codes "a record is of no heap of the site"
refusal_text refusal.Gap = codes "an operation is missing before one that is there"
refusal_text (refusal.Piece fault) = codes "a piece of a heap does not follow the one before"
refusal_text refusal.NotWhole = codes "pieces of a heap are missing"
refusal_text refusal.OtherVector = codes "a heap has not the operations that it is said to have"
refusal_text refusal.NoMemory = codes "there was no memory"

abbrev pub fault_text : State → Option (List ℕ)
fault_text Whole = None
fault_text Torn = Some (codes "bytes follow the last whole record, as a crash leaves them")
fault_text Empty = Some (codes "the log has no record")
fault_text Damaged = Some (codes "the log is damaged")
fault_text (Refused reason) = Some (refusal_text reason)

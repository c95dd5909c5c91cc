-- Frames of operations by differences.

use Rattle.std.specs.Prelude.{Bool, Err, List, Ok, Result, [], false, ℕ, ◌==◌, ◌∷◌, ◌≡◌, ◌⊎◌}
use Rattle.zq_batch.specs.Batch.{AreBatch}
use Rattle.zq_batch.specs.Reading.{batch_at}
use Rattle.zq_batch.specs.Spelling.{KIND, batch_bytes}
use Rattle.zq_batch.specs.declared.fault.BatchFault.{BatchFault}
use Rattle.zq_batch.specs.declared.fault.BatchFault.TheVariants as batch
use Rattle.zq_dots.specs.Placed.{Placed}
use Rattle.zq_links.specs.Frame.{Frame, OfOps}
use Rattle.zq_links.specs.Spelling.{IsSpelled}
use Rattle.zq_links.specs.declared.frame_fault.FrameFault.{FrameFault}
use Rattle.zq_links.specs.declared.frame_fault.FrameFault.TheVariants as frame

-- the bytes are of the operations of the frame, by differences
abbrev pub IsBatch : Frame → List ℕ → Type 0
IsBatch f bytes = (ops : List Placed) × (heaps : ℕ) × (heap : ℕ) × AreBatch heaps heap ops
    × (f ≡ OfOps ops) × (bytes ≡ batch_bytes heaps heap ops)

-- the bytes are of the frame, in a kind that a peer which is pushed to is sent
abbrev pub IsOneOf : Frame → List ℕ → Type 0
IsOneOf f bytes = IsSpelled f bytes ⊎ IsBatch f bytes

-- the first byte names the kind
abbrev pub is_batch : List ℕ → Bool
is_batch [] = false
is_batch (b ∷ bytes) = b == KIND

-- the fault of a batch is the frame's
abbrev pub fault_of : BatchFault → FrameFault
fault_of batch.Short = frame.Short
fault_of (batch.Field place) = frame.Field place
fault_of batch.Rest = frame.Rest
fault_of batch.NoMemory = frame.NoMemory

abbrev pub of_batch : Result (List Placed) BatchFault → Result Frame FrameFault
of_batch (Ok ops) = Ok (OfOps ops)
of_batch (Err fault) = Err (fault_of fault)

-- the frame that the bytes are
abbrev pub batch_frame_at : List ℕ → Result Frame FrameFault
batch_frame_at bytes = of_batch (batch_at bytes)

-- there was no memory
abbrev pub IsNoMemory : FrameFault → Type 0
IsNoMemory fault = fault ≡ frame.NoMemory

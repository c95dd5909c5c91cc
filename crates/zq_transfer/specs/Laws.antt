-- What is proved of the two ends of a stream.

use Rattle.std.specs.Prelude.{slice_set, ℕ, ◌≡◌, ◌≤◌}
use Rattle.zq_links.specs.declared.piece.Piece.{Piece}
use Rattle.zq_model.specs.Image.{image_taken}
use Rattle.zq_model.specs.Operation.{Operation}
use Rattle.zq_model.specs.Sets.{New, taken_of}
use Rattle.zq_shard.specs.Shard.{IsSameHeap}
use Rattle.zq_stage.specs.Piece.{IsNextPiece, holding}
use Rattle.zq_stage.specs.declared.portion.Portion.{Portion}
use Rattle.zq_transfer.specs.Transfer.{AreInStep, IsMade, Received, after_part, begun_at, begun_by, resume_of, resumed_at, with_vector}
use Rattle.zq_transfer.specs.declared.sending.Sending.{Sending}

-- the first piece is one that begins a receiving end, and leaves the two in step
abbrev pub StepsBegin : Type 0
StepsBegin = (life : ℕ) (portion : Portion) (p : Piece) (new : Sending) →
    IsMade (begun_at life) portion p new → (p.number ≡ 0) × AreInStep new (begun_by p)

-- a new operation that goes, and that the sender notes, leaves them in step
abbrev pub KeepsOperations : Type 0
KeepsOperations = (s : Sending) (r : Received) (o : Operation) → AreInStep s r →
    taken_of r.staged.held.image.vector o ≡ New →
    AreInStep (with_vector s (slice_set r.staged.held.image.vector o.site o.n))
    (record r { staged = holding (image_taken o r.staged.held.image) r.staged })

-- the next piece of the same heap is the one that the stage waits for, and leaves them in step
abbrev pub KeepsPieces : Type 0
KeepsPieces = (s new : Sending) (r : Received) (portion : Portion) (p : Piece) → AreInStep s r →
    IsMade s portion p new → IsSameHeap r.staged.held p.part → r.staged.held.rule ≡ p.part.rule →
    IsNextPiece r.staged p.life p.number p.part × AreInStep new (after_part p r)

-- a stream that goes on where the receiver stands is where the sender was
abbrev pub Resumes : Type 0
Resumes = (s : Sending) (r : Received) → AreInStep s r → 1 ≤ r.staged.next →
    resumed_at (resume_of r) ≡ s

-- The two ends of a stream of pieces.

use Rattle.std.specs.Prelude.{Bool, IfSome, List, None, Some, ℕ, ◌&&◌, ◌+◌, ◌-◌, ◌<◌, ◌==◌, ◌^◌, ◌≡◌}
use Rattle.zq_links.specs.declared.control.Resume.{Resume}
use Rattle.zq_links.specs.declared.piece.Piece.{Piece}
use Rattle.zq_links.specs.declared.spot.Spot.{Spot as FrameSpot}
use Rattle.zq_model.specs.Rows.{rows_of}
use Rattle.zq_shard.specs.declared.spot.Spot.{Spot}
use Rattle.zq_stage.specs.Piece.{MOST_PIECES, Staged, after_piece}
use Rattle.zq_stage.specs.Rows.{with_rows}
use Rattle.zq_stage.specs.declared.portion.Portion.{Portion}
use Rattle.zq_transfer.specs.declared.sending.Sending.{Sending}

-- a spot of a heap as a frame has it, and as the heap has it
abbrev pub in_frame : Spot → FrameSpot
in_frame s = record { key = s.key; member = s.member }

abbrev pub in_heap : FrameSpot → Spot
in_heap s = record { key = s.key; member = s.member }

-- nothing is left at the spot
abbrev pub is_last : FrameSpot → Bool
is_last s = (s.key == 0) && (s.member == 0)

-- ---- the sender's end

-- a stream that begins: nothing was sent yet
abbrev pub begun_at : ℕ → Sending
begun_at life =
    record { life = life; number = 0; spot = record { key = 2 ^ 64 - 1; member = 0 }; vector = None }

-- one that goes on behind the piece at which the other end stands
abbrev pub resumed_at : Resume → Sending
resumed_at r =
    record { life = r.life; number = r.number + 1; spot = in_heap r.next; vector = Some r.vector }

abbrev pub with_vector : Sending → List ℕ → Sending
with_vector s vector = record s { vector = Some vector }

-- the other end has just what this vector has, or nothing was sent yet
abbrev pub Follows : Sending → List ℕ → Type 0
Follows s vector = IfSome s.vector (λ has. has ≡ vector)

-- the next piece is made of this portion, and leaves the stream so
pub record IsMade (old : Sending) (portion : Portion) (piece : Piece) (new : Sending) : Type 0
  where
    pub follows : Follows old portion.part.image.vector
    pub few : old.number < MOST_PIECES
    pub piece_is : piece ≡ record { life = old.life; number = old.number; next = in_frame portion.next; part = portion.part }
    pub new_is : new ≡ record { life = old.life; number = old.number + 1; spot = portion.next; vector = Some portion.part.image.vector }

-- ---- the receiver's end

-- the stage, and where the piece that it waits for begins
pub record Received : Type 0 where
  pub staged : Staged
  pub spot : FrameSpot

abbrev pub begun_by : Piece → Received
begun_by p = record {
  staged = record { held = p.part; life = p.life; next = 1; whole = is_last p.next };
  spot = p.next;
}

-- what it has after the next piece
abbrev pub after_part : Piece → Received → Received
after_part p r = record {
  staged = after_piece (with_rows (rows_of p.part.image) r.staged.held.image) (is_last p.next) r.staged;
  spot = p.next;
}

-- where it stands
abbrev pub resume_of : Received → Resume
resume_of r = record {
  life = r.staged.life;
  number = r.staged.next - 1;
  next = r.spot;
  vector = r.staged.held.image.vector;
}

-- ---- both

-- the receiver waits for the piece that the sender makes next, and has what the sender thinks
pub record AreInStep (s : Sending) (r : Received) : Type 0 where
  pub life : r.staged.life ≡ s.life
  pub number : r.staged.next ≡ s.number
  pub spot : r.spot ≡ in_frame s.spot
  pub vector : s.vector ≡ Some r.staged.held.image.vector

-- Reading a piece from left to right, with the first fault that is met.

use Rattle.std.specs.Prelude.{Err, List, Ok, Result, [], if◌then◌else◌, ℕ, ◌==◌, ◌∷◌, ◌≡◌}
use Rattle.zq_links.specs.Pieces.{KIND}
use Rattle.zq_links.specs.Reading.{Read, of_part, of_state, ◌>>=◌}
use Rattle.zq_links.specs.Steps.{step_at}
use Rattle.zq_links.specs.declared.frame_fault.FrameFault.{FrameFault}
use Rattle.zq_links.specs.declared.frame_fault.FrameFault.TheVariants as frame
use Rattle.zq_links.specs.declared.piece.Piece.{Piece}
use Rattle.zq_links.specs.declared.spot.Spot.{Spot}
use Rattle.zq_merge.specs.Refused.{IsRefusedIn}
use Rattle.zq_merge.specs.State.{state_at}
use Rattle.zq_merge.specs.declared.fault.StateFault.{StateFault}
use Rattle.zq_merge.specs.declared.fault.StateFault.TheVariants as state
use Rattle.zq_shard.specs.Shard.{HeapImage}

-- what follows the kind
abbrev pub behind_kind : List ℕ → Result (List ℕ) FrameFault
behind_kind [] = Err frame.Short
behind_kind (b ∷ bytes) = if b == KIND then Ok bytes else Err frame.Kind

-- where the stream stands, behind the kind
abbrev pub front_at : List ℕ → Read (ℕ × ℕ × Spot)
front_at bytes = behind_kind bytes >>= λ rest. of_part (step_at rest)

-- the byte that names the newest version of a state
abbrev pub NEWEST : ℕ
NEWEST = 3

-- the state that the bytes are, of the newest version: no other byte names a version here
abbrev pub newest_at : List ℕ → Result HeapImage StateFault
newest_at [] = Err state.Short
newest_at (b ∷ bytes) = if b == NEWEST then state_at (b ∷ bytes) else Err state.Version

-- the piece of this state
abbrev pub piece_of : ℕ × ℕ × Spot → HeapImage → Piece
piece_of step part = record { life = step.0; number = step.1; next = step.2; part = part }

-- the piece that the bytes are
abbrev pub piece_at : List ℕ → Result Piece FrameFault
piece_at bytes = do
  front ← front_at bytes
  part ← of_state (newest_at front.1)
  Ok (piece_of front.0 part)

-- there was no memory for the state: all before the field that asked for some is read
abbrev pub IsOfMemory : List ℕ → FrameFault → Type 0
IsOfMemory bytes fault =
    (step : ℕ × ℕ × Spot) × (rest : List ℕ) × (front_at bytes ≡ Ok (step, rest)) × IsRefusedIn rest
    × (fault ≡ frame.State state.NoMemory)

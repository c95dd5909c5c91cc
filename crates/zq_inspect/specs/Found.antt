-- What is found in the bytes of a log.

use Rattle.std.specs.Prelude.{Bool, List, None, Option, Some, [], false, true, ℕ, ◌-◌, ◌<◌, ◌≡◌}
use Rattle.zq_inspect.specs.Bytes.{used_of}
use Rattle.zq_inspect.specs.Recalled.{AreRead}
use Rattle.zq_inspect.specs.Words.{is_short_of}
use Rattle.zq_inspect.specs.declared.inspection.Inspection.{Inspection}
use Rattle.zq_inspect.specs.declared.state.State.{State}
use Rattle.zq_inspect.specs.declared.state.State.TheVariants.{Damaged, Empty, Refused, Torn, Whole}
use Rattle.zq_keeper.specs.declared.reader.Reader.{Reader}
use Rattle.zq_recovery.specs.Step.{AreWhole}
use Rattle.zq_recovery.specs.declared.refusal.Refusal.{Refusal}
use Rattle.zq_recovery.specs.declared.refusal.Refusal.TheVariants.{NotWhole}
use Rattle.zq_stage.specs.Piece.{Staged}
use Rattle.zq_wal.specs.Format.{is_corrupt, recovered}
use Rattle.zq_wal.specs.Found.{IsFound}

-- some record, or what is read of all of them, is refused
abbrev pub IsRefused : State → Type 0
IsRefused (Refused refusal) = Unit {0}
IsRefused Whole = ⊥
IsRefused Torn = ⊥
IsRefused Empty = ⊥
IsRefused Damaged = ⊥

-- for this reason, which is no lack of memory
abbrev pub IsRefusedFor : Option Refusal → State → Type 0
IsRefusedFor None state = ⊥
IsRefusedFor (Some reason) state = (state ≡ Refused reason) × (is_short_of reason ≡ false)

abbrev pub IsShortFor : Option Refusal → Type 0
IsShortFor None = Unit {0}
IsShortFor (Some reason) = is_short_of reason ≡ true

-- the heaps as they were read
abbrev pub stages_of : Option Reader → List Staged
stages_of None = []
stages_of (Some reader) = reader.recovery.stages.items

-- all heaps are whole where the log is told whole or torn
abbrev pub IsStateOfHeaps : Reader → Bool → State → Type 0
IsStateOfHeaps reader torn Whole = (torn ≡ false) × AreWhole reader.recovery.stages.items
IsStateOfHeaps reader torn Torn = (torn ≡ true) × AreWhole reader.recovery.stages.items
IsStateOfHeaps reader torn (Refused refusal) = refusal ≡ NotWhole
IsStateOfHeaps reader torn Empty = ⊥
IsStateOfHeaps reader torn Damaged = ⊥

-- the state of a log whose records were all taken, where bytes that are not 0 follow them or not
abbrev pub IsStateOf : Option Reader → Bool → State → Type 0
IsStateOf None torn state = state ≡ Empty
IsStateOf (Some reader) torn state = IsStateOfHeaps reader torn state

-- The records that the file begins with were all taken, behind which none is, and it has no damage;
-- and so many bytes follow them up to the last that is not 0.
pub record IsTaken (file : List ℕ) (x : Inspection) : Type 0 where
  pub found : IsFound file (record { count = x.records; end = x.bytes })
  pub read : AreRead (recovered file) x.reader
  pub torn : x.torn ≡ used_of file - x.bytes

-- heaps are whole, of which there is a reader
abbrev pub AreHeaps : Option Reader → Type 0
AreHeaps None = ⊥
AreHeaps (Some reader) = AreWhole reader.recovery.stages.items

-- what each state tells of the file
abbrev pub IsSeenAs : List ℕ → Inspection → State → Type 0
IsSeenAs file x Whole = IsTaken file x × (x.torn ≡ 0) × AreHeaps x.reader
IsSeenAs file x Torn = IsTaken file x × (0 < x.torn) × AreHeaps x.reader
IsSeenAs file x Empty = IsTaken file x × (x.reader ≡ None)
IsSeenAs file x Damaged = is_corrupt file ≡ true
IsSeenAs file x (Refused refusal) = Unit {0}

abbrev pub IsSeen : List ℕ → Inspection → Type 0
IsSeen file x = IsSeenAs file x x.state

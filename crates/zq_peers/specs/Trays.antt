-- What waits for a link thread.

use Rattle.std.specs.Prelude.{Bool, List, None, Option, Some, Vec, [], count_by, drop, false, if◌then◌else◌, length, nat_le, nat_lt, true, ℕ, ◌+◌, ◌++◌, ◌<◌, ◌||◌, ◌∷◌, ◌≡◌, ◌≤◌}
use Rattle.std.specs.declared.alloc.Global.{Global}
use Rattle.zq_links.specs.declared.message.Message.{Message}
use Rattle.zq_links.specs.declared.message.Message.TheVariants.{Frame, Stop, Tick}
use Rattle.zq_peers.specs.declared.tray.Fate.{Fate}
use Rattle.zq_peers.specs.declared.tray.Fate.TheVariants.{Lost, NoMemory, Waits}

-- messages, the oldest first, whether nothing more comes in, and how many have room before more
-- memory is asked for
pub record Waiting : Type 0 where
  pub messages : List Message
  pub over : Bool
  pub room : ℕ

abbrev pub nothing : Waiting
nothing = record { messages = []; over = false; room = 1 }

abbrev pub is_tick : Message → Bool
is_tick (Frame from bytes) = false
is_tick Tick = true
is_tick Stop = false

abbrev pub ticks_in : List Message → ℕ
ticks_in messages = count_by is_tick messages

abbrev pub has_tick : List Message → Bool
has_tick messages = nat_lt 0 (ticks_in messages)

-- the message, behind all that wait
abbrev pub with_message : Message → Waiting → Waiting
with_message message w =
    record { messages = w.messages ++ message ∷ []; over = w.over; room = w.room }

-- a Tick waits, and no more than one
abbrev pub ticked : Waiting → Waiting
ticked w = if w.over || has_tick w.messages then w else with_message Tick w

abbrev pub stopped : Waiting → Waiting
stopped w = record { messages = w.messages; over = true; room = w.room }

-- no frame comes in where so many messages wait
abbrev pub is_full : ℕ → Waiting → Bool
is_full most w = w.over || nat_le most (length w.messages)

-- the same, with more room or as much
pub record IsRoomier (w new : Waiting) : Type 0 where
  pub messages : new.messages ≡ w.messages
  pub over : new.over ≡ w.over
  pub room : w.room ≤ new.room

-- What became of a frame: where as many messages wait as may it is lost and a Tick waits, else it
-- waits. There was no memory for it only where there was no room for a frame and a Tick.
abbrev pub IsGiven : ℕ → ℕ → Vec ℕ Global → Waiting → Fate → Waiting → Type 0
IsGiven most from bytes old Waits new = (is_full most old ≡ false)
    × IsRoomier (with_message (Frame from bytes) old) new
IsGiven most from bytes old Lost new = (is_full most old ≡ true) × (new ≡ ticked old)
IsGiven most from bytes old NoMemory new = (is_full most old ≡ false) × IsRoomier old new
    × (old.room < length old.messages + 2)

-- the message that is taken next, if there is one: the first, and in the end a Stop
abbrev pub next_of : List Message → Bool → Option Message
next_of (message ∷ messages) over = Some message
next_of [] true = Some Stop
next_of [] false = None

abbrev pub next_in : Waiting → Option Message
next_in w = next_of w.messages w.over

-- and what then waits
abbrev pub left_in : Waiting → Waiting
left_in w = record { messages = drop 1 w.messages; over = w.over; room = w.room }

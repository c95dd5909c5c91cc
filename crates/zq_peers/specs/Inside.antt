-- A tray by its fields.

use Rattle.std.specs.Prelude.{if◌then◌else◌, length, ◌+◌, ◌≡◌, ◌≤◌}
use Rattle.std.specs.VecDeque.{deque_capacity}
use Rattle.zq_peers.specs.Trays.{Waiting, ticks_in}
use Rattle.zq_peers.specs.declared.tray.Tray.TheInside.{Inside}

abbrev pub waiting_in : Inside → Waiting
waiting_in tray = record { messages = tray.waiting.items; over = tray.over; room = deque_capacity tray.waiting }

-- the flag says whether a Tick waits, and where none does there is room for it
pub record IsTray (tray : Inside) : Type 0 where
  pub flag : ticks_in tray.waiting.items ≡ (if tray.ticks then 1 else 0)
  pub room : length tray.waiting.items + 1 ≤ deque_capacity tray.waiting
      + ticks_in tray.waiting.items

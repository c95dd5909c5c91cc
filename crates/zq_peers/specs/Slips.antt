-- Receipts of a tray.

use Rattle.std.specs.Prelude.{Some, ℕ, ◌≡◌}
use Rattle.zq_links.specs.declared.message.Message.{Message}
use Rattle.zq_peers.specs.Trays.{IsGiven, left_in, next_in}
use Rattle.zq_peers.specs.declared.tray.Slip.{Slip}
use Rattle.zq_peers.specs.declared.tray.Taken.{Taken}

-- the frame was given where so many messages may wait
abbrev pub IsSlip : ℕ → Slip → Type 0
IsSlip most slip = IsGiven most slip.from slip.frame.value slip.before.value slip.fate
    slip.after.value

-- the message was the one that is taken next, and then it waits no more
pub record IsTaken (message : Message) (taken : Taken) : Type 0 where
  pub message_is : taken.message.value ≡ message
  pub next : next_in taken.before.value ≡ Some message
  pub left : taken.after.value ≡ left_in taken.before.value

-- What is taken from a mailbox.

use Rattle.std.specs.Prelude.{Option, Some, ◌≡◌}
use Rattle.zq_links.specs.declared.message.Message.{Message}
use Rattle.zq_peers.specs.Slips.{IsTaken}
use Rattle.zq_peers.specs.declared.mailbox.Mailbox.{Mailbox}
use Rattle.zq_peers.specs.declared.tray.Taken.{Taken}

-- the message was the first that waited in a tray, for the receipt that is kept; the mailbox is the
-- same
pub record IsFetched (old new : Mailbox) (message : Message) (last : Option Taken) : Type 0 where
  pub mailbox : new ≡ old
  pub fetched : (taken : Taken) × (last ≡ Some taken) × IsTaken message taken

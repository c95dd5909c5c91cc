-- Where the mailboxes of sites are.

use Rattle.std.specs.Prelude.{Option, Some, slice_get, ℕ}
use Rattle.zq_peers.specs.declared.mailbox.Mailbox.{Mailbox}
use Rattle.zq_serve.specs.declared.inboxes.Inboxes.{Inboxes}
use Rattle.zq_serve.specs.declared.inboxes.Inboxes.TheVariants.{Each, One}

-- the mailbox of a site: the one at its place, where there is one, or the one that there is
abbrev pub inbox_of : Inboxes → ℕ → Option Mailbox
inbox_of (Each mailboxes) site = slice_get mailboxes.now site
inbox_of (One mailbox gate admission counters desk durable) site = Some mailbox.now

-- What the log of a site says of each thing that can happen: what it was, and which fields stand
-- behind it.

use Rattle.std.specs.Prelude.{None, Option, Some, ℕ}
use Rattle.std.specs.declared.net.socket_addr.SocketAddr.{SocketAddr}
use Rattle.zq_replica.specs.declared.fence.Fenced.{Fenced}
use Rattle.zq_site.specs.declared.caller.Caller.{Caller}
use Rattle.zq_site.specs.declared.happening.Happening.{Happening}
use Rattle.zq_site.specs.declared.happening.Happening.TheVariants as what
use Rattle.zq_site.specs.declared.loss.Loss.{Loss}
use Rattle.zq_site.specs.declared.note.LinkUp.{LinkUp}
use Rattle.zq_site.specs.declared.note.Listening.{Listening}
use Rattle.zq_site.specs.declared.note.LogRead.{LogRead}
use Rattle.zq_site.specs.declared.note.LogSwitched.{LogSwitched}
use Rattle.zq_site.specs.declared.note.Note.{Note}
use Rattle.zq_site.specs.declared.note.Note.TheVariants as note
use Rattle.zq_site.specs.declared.report.Report.{Report}
use Rattle.zq_site.specs.declared.warning.Warning.{Warning}
use Rattle.zq_site.specs.declared.warning.Warning.TheVariants as warning
use Rattle.zq_site.specs.declared.why.Why.{Why}
use Rattle.zq_site.specs.declared.why.Why.TheVariants as why

-- that it happened, and nothing else
abbrev pub of : Happening → Report
of happening = record {
  what = happening;
  peer = None;
  address = None;
  version = None;
  run = None;
  reason = None;
  heap = None;
  known = None;
  made = None;
  start = None;
  bytes = None;
  was = None;
  records = None;
  milliseconds = None;
  clients = None;
  links = None;
  admin = None;
}

-- with a peer
abbrev pub with_peer : Happening → ℕ → Report
with_peer happening peer = record (of happening) { peer = Some peer }

-- with a peer at an address
abbrev pub at : Happening → Caller → Report
at happening caller = record (of happening) { peer = caller.site; address = Some caller.address }

-- for a reason
abbrev pub since : Report → Why → Report
since report why = record report { reason = Some why }

-- a proof that another run used the number of this site
abbrev pub of_fence : Fenced → Report
of_fence fenced = record (since (with_peer what.Fenced fenced.peer) why.Used) {
  heap = Some fenced.heap;
  known = Some fenced.known;
  made = Some fenced.own;
}

-- a link that is down
abbrev pub of_loss : ℕ → Option SocketAddr → Loss → Report
of_loss peer address loss =
    record (since (with_peer what.LinkLost peer) (why.Loss loss)) { address = address }

-- what is warned of
abbrev pub of_warning : Warning → Report
of_warning (warning.Refuses caller refusal) = since (at what.PeerRefused caller) (why.Refusal refusal)
of_warning (warning.Unwelcome caller reason) =
    since (at what.RefusedByPeer caller) (why.Reason reason)
of_warning (warning.Unopened caller ending) = since (at what.LinkNotOpened caller) (why.Ending ending)
of_warning (warning.OtherRun caller) = since (at what.PeerRefused caller) why.OtherRun
of_warning (warning.Reused peer) = since (with_peer what.PeerRefused peer) why.Reused
of_warning (warning.Dismissed peer) = since (with_peer what.Fenced peer) why.Known
of_warning (warning.Kept peer) = with_peer what.NumberUsedTwice peer
of_warning (warning.Fenced fenced) = of_fence fenced
of_warning (warning.Missed peer) = with_peer what.PeerNotHeard peer
of_warning warning.Alone = of what.NoPeerHeard
of_warning (warning.Loses peer address loss) = of_loss peer address loss
of_warning (warning.Drops peer unheard) =
    since (with_peer what.FrameDropped peer) (why.Unheard unheard)
of_warning (warning.Keeps peer) = with_peer what.FrameTooLong peer
of_warning warning.Leaves = since (of what.DrainUnfinished) why.Lacking
of_warning warning.DiskFull = of what.DiskFull

-- a site that listens
abbrev pub of_listening : Listening → Report
of_listening listening = record (of what.Listening) {
  clients = Some listening.clients;
  links = Some listening.links;
  admin = listening.admin;
}

-- a link that is up
abbrev pub of_link : LinkUp → Report
of_link link = record (at what.LinkUp link.caller) { version = Some link.version; run = link.run }

-- a log on disk of which so many bytes were read
abbrev pub of_reading : ℕ → Report
of_reading bytes = record (of what.LogReading) { bytes = Some bytes }

-- a log on disk that was read
abbrev pub of_read : LogRead → Report
of_read read = record (of what.LogRead) {
  run = Some read.folder;
  start = Some read.start;
  bytes = Some read.bytes;
  records = Some read.records;
  milliseconds = Some read.milliseconds;
}

-- one that was switched to another file
abbrev pub of_switch : LogSwitched → Report
of_switch switched = record (of what.LogSwitched) {
  bytes = Some switched.bytes;
  was = Some switched.was;
}

-- what is noted
abbrev pub of_note : Note → Report
of_note (note.Listening listening) = of_listening listening
of_note (note.LinkUp link) = of_link link
of_note (note.LogReading bytes) = of_reading bytes
of_note (note.LogRead read) = of_read read
of_note (note.LogSwitched switched) = of_switch switched
of_note note.DiskFree = of what.DiskFree
of_note (note.Accepted caller) = at what.AcceptedByPeer caller
of_note note.Joined = of what.Joined
of_note note.CaughtUp = of what.CaughtUp
of_note note.Stopping = of what.Stopping
of_note note.Stopped = of what.Stopped
of_note (note.Left caller ending) = since (at what.CallerLeft caller) (why.Ending ending)

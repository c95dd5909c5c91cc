-- What goes to the threads of a port.
use denote.Param.Send.{IsSend, IsSync, sendable}
use Rattle.std.proofs.Crossing.{crosses}
use Rattle.zq_loop.specs.contracts.accepting.Acceptor as Acceptor
use Rattle.zq_loop.specs.contracts.counts.Counts as Counts
use Rattle.zq_loop.specs.contracts.inbox.Inbox as Inbox
use Rattle.zq_loop.specs.contracts.port.Port as Port
use Rattle.zq_loop.specs.contracts.poller.Poller as Poller

inbox_sync : IsSync Inbox.the_row
inbox_sync = search (sendable, crosses) depth 30

inbox_send : IsSend Inbox.the_row
inbox_send = search (sendable, crosses) depth 30

counts_sync : IsSync Counts.the_row
counts_sync = search (sendable, crosses) depth 30

counts_send : IsSend Counts.the_row
counts_send = search (sendable, crosses) depth 30

pub port_sync : IsSync Port.the_row
port_sync = search (inbox_sync, counts_sync, sendable, crosses) depth 30

pub port_send : IsSend Port.the_row
port_send = search (inbox_send, counts_send, sendable, crosses) depth 30

pub acceptor_send : IsSend Acceptor.the_row
acceptor_send = search (sendable, crosses) depth 30

pub poller_send : IsSend Poller.the_row
poller_send = search (sendable, crosses) depth 30

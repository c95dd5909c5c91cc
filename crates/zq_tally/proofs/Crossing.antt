-- Threads may share a tally, and its seats may go to one of them. What is a field of another struct is said of it as a field.
use denote.Param.Send.{IsSend, IsSync, sendable}
use Rattle.atomic_table.proofs.send_lease.SendLease.TheSendSync as lease
use Rattle.atomic_table.proofs.shared.Seat.TheSendSync as seat
use Rattle.atomic_table.proofs.shared.Shared.TheSendSync as shared
use Rattle.std.proofs.Crossing.{crosses}
use Rattle.zq_tally.specs.contracts.count.Count as Count
use Rattle.zq_tally.specs.contracts.tally.Tally as Tally
use Rattle.zq_tally.specs.contracts.total.Total as Total

pub count_send : IsSend Count.the_row
count_send = search (seat.the_send, sendable) depth 20

pub total_send : IsSend Total.the_field.row
total_send = search (seat.the_send, sendable) depth 20

pub tally_send : IsSend Tally.the_field.row
tally_send = search (shared.the_send, lease.the_send, sendable, crosses) depth 20

pub tally_sync : IsSync Tally.the_field.row
tally_sync = search (shared.the_sync, lease.the_sync, sendable, crosses) depth 20

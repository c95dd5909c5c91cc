-- Threads may share a lock, and its seats may go to one of them, where the locked value may. What is a field of another struct is
-- said of it as a field.
use denote.RattleType.{RattleType}
use denote.Param.Send.{IsSend, IsSync, sendable}
use Rattle.atomic_table.proofs.send_lease.SendLease.TheSendSync as lease
use Rattle.atomic_table.proofs.shared.Seat.TheSendSync as seat
use Rattle.atomic_table.proofs.shared.Shared.TheSendSync as shared
use Rattle.std.proofs.Crossing.{crosses}
use Rattle.zq_ticketlock.specs.contracts.lock.TicketLock as TicketLock
use Rattle.zq_ticketlock.specs.contracts.seat.Seat as Seat
use Rattle.zq_ticketlock.specs.declared.keeps.Keeps.{Ghosts}

pub seat_send : (T : RattleType) → IsSend T → IsSend (Seat.the_row T)
seat_send T t = search (seat.the_send, sendable, crosses) depth 30

pub lock_send : (T : RattleType) (g : Ghosts T.Denot) → IsSend T → IsSend (TicketLock.the_field T g).row
lock_send T g t = search (shared.the_send, lease.the_send, sendable, crosses) depth 30

pub lock_sync : (T : RattleType) (g : Ghosts T.Denot) → IsSend T → IsSync (TicketLock.the_field T g).row
lock_sync T g t = search (shared.the_sync, lease.the_sync, sendable, crosses) depth 30

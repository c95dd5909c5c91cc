-- A connection at its socket, among others.
use Rattle.std.specs.Prelude.{◌≡◌, ◌⊎◌, ◌<◌, ◌≤◌, ◌-◌, ℕ, List, None, Option, Some, take, if◌then◌else◌}
use Rattle.zq_loop.specs.declared.client.Client.{Client}
use Rattle.zq_loop.specs.declared.watch.PortFault.{PortFault}
use Rattle.zq_loop.specs.declared.watch.PortFault.TheVariants.{Device, Protocol}
use Rattle.zq_session.specs.Among.{Change}
use Rattle.zq_session.specs.Connection.{ConnectionState, IsAlong, IsWritten, owed_of}
use Rattle.zq_session.specs.Session.{Relation}
use Rattle.zq_session.specs.Steps.{Does, Said, Step, Talks, heard, said}

-- What the socket gave is the connection's text, and what it took is what the connection was
-- written, from one state of the socket on.
pub record IsServedAt {E S : Type 0} (does : Does E) (others : Change S) (answers : Relation S)
    (first : E) (begun now : S) (socket : E) (c : ConnectionState) : Type 0 where
  pub steps : List Step
  pub talks : Talks does first steps socket
  pub along : IsAlong others answers begun now (heard steps) (said steps) c

-- The first of what the connection is owed was said, and counts as written; or nothing was done.
abbrev pub IsSent : {E : Type 0} → Does E → E → ConnectionState → E → ConnectionState → Type 0
IsSent does before old after new =
    ((count : ℕ) × does before (Said (take count (owed_of old))) after × IsWritten old count new)
    ⊎ ((after ≡ before) × (new ≡ old))

-- what went wrong with a client: its socket failed, or it broke the protocol
abbrev pub fault_of : {E C : Type 0} → Client E C → Option PortFault
fault_of client =
    if client.has_failed then Some Device
    else (if client.has_broken then Some Protocol else None)

-- so many seconds have passed since then, where there is a limit
abbrev pub IsPast : ℕ → ℕ → ℕ → Type 0
IsPast since limit now = (0 < limit) × (limit ≤ now - since)

-- proofs/worker/Worker/close_all/Invariants.antt
use Rattle.mio.specs.declared.net.stream.TcpStream.{TcpStream}
use Rattle.std.proofs.Common.{◌<◌, ◌≡◌, length, ℕ}
use Rattle.zq_loop.proofs.worker.Worker.close_all.Given as goal
use Rattle.zq_loop.specs.Life.{IsAt, Rests}
use Rattle.zq_loop.specs.declared.client.Client.{Client}

-- the first places have no client
abbrev pub invariant-loop-place : goal.invariant-loop-place
invariant-loop-place g l = Rests l.initial.self.clients.items l.self.clients.items
    × (length l.self.clients.items ≡ length l.initial.self.clients.items)
    × ((k : ℕ) → k < l.place → (client : Client TcpStream g.row.C.Denot) → IsAt l.self.clients.items k client → ⊥)

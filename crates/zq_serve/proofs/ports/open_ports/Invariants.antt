use Rattle.std.proofs.Common.{All, length, ◌≡◌}
use Rattle.zq_serve.proofs.ports.open_ports.Given as goal
use Rattle.zq_serve.specs.Ports.{IsOpen}

abbrev pub invariant-loop-port : goal.invariant-loop-port
invariant-loop-port g l = (length l.opened.items ≡ l.port-index) × All (IsOpen l.workers) l.opened.items

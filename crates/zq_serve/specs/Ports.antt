-- Ports that are listened on.

use Rattle.std.specs.Prelude.{length, ℕ, ◌≡◌}
use Rattle.zq_serve.specs.declared.ports.OpenPort.{OpenPort}

-- so many workers can wait at the port
abbrev pub IsOpen : ℕ → OpenPort → Type 0
IsOpen workers open_port = length open_port.pollers.items ≡ workers

-- The limits of a port.

use Rattle.std.specs.Prelude.{Bool, None, Option, Some, false, max, min, true, ℕ, ◌/◌}
use Rattle.zq_loop.specs.declared.limits.Limits.{Limits}
use Rattle.zq_settings.specs.declared.values.ClientLimits.{ClientLimits}

-- how many connections a port accepts, where 0 is no end of them
abbrev pub connections_of : Option ℕ → ℕ
connections_of None = 0
connections_of (Some count) = count

-- those of a port whose process has descriptors for so many clients
abbrev pub port_limits : Option ℕ → ClientLimits → ℕ → Limits
port_limits connections limits most = record {
  clients = min limits.clients most;
  connections = connections_of connections;
  timeout = limits.timeout;
  write_timeout = limits.write_timeout;
  output = limits.output;
  strangers = 0;
}

-- those of a port where clients have to show a password, or need not
abbrev pub guarded : Bool → Limits → Limits
guarded false limits = limits
guarded true limits = record limits { strangers = max (limits.clients / 4) 1 }

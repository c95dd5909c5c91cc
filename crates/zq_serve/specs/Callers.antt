-- What a connection has of its own: who it is, and what it has begun to ask as one.

use Rattle.std.specs.Prelude.{Bool, None, Option, Some, false, true}
use Rattle.std.specs.declared.alloc.Global.{Global}
use Rattle.std.specs.declared.boxed.Box.{Box}
use Rattle.zq_client.specs.Clients.{Client}
use Rattle.zq_serve.specs.Queues.{Broken, Idle, Line, Open, line_of}
use Rattle.zq_serve.specs.declared.caller.Begun.{Begun}
use Rattle.zq_serve.specs.declared.caller.Watching.{Watching}
use Rattle.zq_serve.specs.declared.caller.Watching.TheVariants.{Nothing}

-- who it is, what it watches, and what waits at it
pub record Caller : Type 0 where
  pub client : Client
  pub watching : Watching
  pub queue : Line

abbrev pub watching_in : Option (Box Begun Global) → Watching
watching_in None = Nothing
watching_in (Some begun) = begun.value.watching

abbrev pub queue_in : Option (Box Begun Global) → Line
queue_in None = Idle
queue_in (Some begun) = line_of begun.value.queue

-- it watches nothing, and nothing waits
abbrev pub resting : Client → Caller
resting client = record { client = client; watching = Nothing; queue = Idle }

abbrev pub is_idle : Line → Bool
is_idle Idle = true
is_idle (Open requests) = false
is_idle Broken = false

-- what is seen of what it watches, where it has begun something
abbrev pub watching_or : Option Watching → Watching
watching_or None = Nothing
watching_or (Some watching) = watching

abbrev pub watching : Watching → Caller → Caller
watching other caller = record caller { watching = other }

abbrev pub queueing : Line → Caller → Caller
queueing line caller = record caller { queue = line }

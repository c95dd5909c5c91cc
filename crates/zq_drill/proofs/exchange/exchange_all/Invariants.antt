use Rattle.std.proofs.Common.{length, ◌≡◌}
use Rattle.zq_drill.proofs.exchange.exchange_all.Given as goal
use Rattle.zq_drill.specs.Meetings.{AreMeetings, to_each}
use Rattle.zq_drill.specs.SiteHandles.{places_of}

abbrev pub invariant-loop-receiver : goal.invariant-loop-receiver
invariant-loop-receiver g l =
    (length l.handles ≡ length l.initial.handles) × AreMeetings (to_each (length l.initial.handles) l.receiver) (places_of l.initial.handles) (places_of l.handles)

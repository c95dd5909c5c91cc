use Rattle.std.proofs.Common.{length, ◌≡◌}
use Rattle.zq_drill.proofs.exchange.gather.Given as goal
use Rattle.zq_drill.specs.Meetings.{AreMeetings, to_one}
use Rattle.zq_drill.specs.SiteHandles.{places_of}

abbrev pub invariant-loop-sender : goal.invariant-loop-sender
invariant-loop-sender g l = (length l.handles ≡ length l.initial.handles) × AreMeetings (to_one l.receiver l.sender) (places_of l.initial.handles) (places_of l.handles)

use Rattle.std.proofs.Common.{◌≡◌}
use Rattle.zq_drill.proofs.exchange.hand_all.Given as goal
use Rattle.zq_drill.specs.Meetings.{AreHandedOver}
use Rattle.zq_drill.specs.SiteHandles.{site_of}

abbrev pub invariant-loop-heap : goal.invariant-loop-heap
invariant-loop-heap g l =
    (l.sender.drill_site ≡ l.initial.sender.drill_site) × (l.receiver.drill_site ≡ l.initial.receiver.drill_site)
    × AreHandedOver (site_of l.initial.sender) (site_of l.initial.receiver) l.heap l.initial.sender.pass l.sender.pass l.initial.receiver.pass l.receiver.pass

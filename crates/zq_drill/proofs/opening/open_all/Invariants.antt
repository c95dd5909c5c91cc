use Rattle.std.proofs.Common.{◌≡◌}
use Rattle.zq_drill.proofs.Opened.{below}
use Rattle.zq_drill.proofs.opening.open_all.Given as goal
use Rattle.zq_drill.specs.SiteHandles.{numbers_of, places_of}

abbrev pub invariant-loop-number : goal.invariant-loop-number
invariant-loop-number l = numbers_of (places_of l.handles.last.items) ≡ below l.number

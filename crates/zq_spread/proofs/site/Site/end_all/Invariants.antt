use Rattle.std.proofs.Common.{drop}
use Rattle.zq_spread.proofs.ManyHeaps.{IsEnding}
use Rattle.zq_spread.proofs.site.Site.end_all.Given as goal
use Rattle.zq_spread.specs.Several.{helds_of}

abbrev pub invariant-loop-heap : goal.invariant-loop-heap
invariant-loop-heap l =
    IsEnding l.self l.heaps (helds_of l.initial.holds) l.initial.pass l.pass (drop l.heap-index l.heaps) (helds_of l.holds)

use Rattle.std.proofs.Common.{length, ◌≡◌, ◌≤◌}
use Rattle.std.specs.Vec.{vec_capacity}
use Rattle.zq_spread.proofs.site.Site.watch.Given as goal
use Rattle.zq_spread.specs.Calls.{heaps_of}
use Rattle.zq_spread.specs.Passes.{IsPassOf}
use Rattle.zq_spread.specs.Watching.{AreShown}

abbrev pub invariant-loop-heap : goal.invariant-loop-heap
invariant-loop-heap g l = record {
  pass : IsPassOf l.self l.pass;
  shown : AreShown l.fn.pass 0 l.vectors.items l.pass;
  number : length l.vectors.items ≡ l.heap;
  room : heaps_of l.self ≤ vec_capacity l.vectors;
}

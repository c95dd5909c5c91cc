use Rattle.std.proofs.Common.{length, ◌+◌, ◌++◌, ◌≡◌}
use Rattle.std.specs.List.{AllByRecursion}
use Rattle.zq_entry.specs.Sums.{AreSums, IsSum, sum_joined}
use Rattle.zq_entry.proofs.MergeLemmas.{merged}
use Rattle.zq_entry.proofs.sums.joined_sums.Given as goal

abbrev pub invariant-loop-site : goal.invariant-loop-site
invariant-loop-site l = record {
  joined : l.items.items ++ merged (sum_joined l.mine l.theirs) l.my_rest l.their_rest ≡ merged (sum_joined l.mine l.theirs) l.my_sums l.their_sums;
  each : AllByRecursion IsSum l.items.items;
  mine : AreSums l.my_rest;
  theirs : AreSums l.their_rest;
}

abbrev pub decreases-loop-site : goal.decreases-loop-site
decreases-loop-site l = length l.my_rest + length l.their_rest

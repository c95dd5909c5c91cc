use Rattle.std.proofs.Common.{drop, length, map, ◌++◌, ◌≡◌, ◌≤◌}
use Rattle.zq_commands.specs.FirstPairs.{lent_pair}
use Rattle.zq_commands.specs.Weaving.{woven}
use Rattle.zq_commands.proofs.merging.weave.Given as goal

abbrev pub invariant-loop-rest : goal.invariant-loop-rest
invariant-loop-rest l = record {
  woven : woven l.is_turned l.most (map lent_pair l.first) (map lent_pair l.second) ≡
      map lent_pair l.pairs.items ++ woven l.is_turned l.rest (drop l.left (map lent_pair l.first)) (drop l.right (map lent_pair l.second));
  left : l.left ≤ length l.first;
  right : l.right ≤ length l.second;
}

abbrev pub decreases-loop-rest : goal.decreases-loop-rest
decreases-loop-rest l = l.rest

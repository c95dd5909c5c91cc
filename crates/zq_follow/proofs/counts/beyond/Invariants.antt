use Rattle.std.proofs.Common.{map, sum, ◌*◌, ◌≡◌, ◌≤◌}
use Rattle.std.specs.List.{range_with_len}
use Rattle.zq_follow.specs.Counts.{beyond_at}
use Rattle.zq_follow.proofs.counts.beyond.Given as goal

abbrev pub invariant-loop-number : goal.invariant-loop-number
invariant-loop-number l = record {
  counted : l.count ≡ sum (map (beyond_at l.sites l.one l.other) (range_with_len 0 l.number));
  within : l.count ≤ 281474976710655 * l.number;
}

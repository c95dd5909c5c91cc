use Rattle.std.proofs.Common.{drop, length, map, ◌+◌, ◌-◌, ◌≡◌, ◌≤◌}
use Rattle.zq_merge.specs.Keys.{by_key}
use Rattle.zq_shard.specs.Listed.{lent_row}
use Rattle.zq_merge.proofs.keys.count_keys.Given as goal

abbrev pub invariant-loop-place : goal.invariant-loop-place
invariant-loop-place l = record {
  keys : l.count + length (by_key (drop l.place (map lent_row l.rows))) ≡ length (by_key (map lent_row l.rows));
  few : l.count ≤ l.place;
  within : l.place ≤ length l.rows;
}

abbrev pub decreases-loop-place : goal.decreases-loop-place
decreases-loop-place l = length l.rows - l.place

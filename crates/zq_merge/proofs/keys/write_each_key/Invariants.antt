use Rattle.std.proofs.Common.{drop, length, map, ◌++◌, ◌-◌, ◌≡◌, ◌≤◌}
use Rattle.std.specs.List.{flat_map}
use Rattle.zq_merge.specs.Keys.{by_key}
use Rattle.zq_merge.specs.Spelling.{key_bytes}
use Rattle.zq_merge.specs.declared.version.Version.TheVariants.{Three}
use Rattle.zq_shard.specs.Listed.{lent_row}
use Rattle.zq_merge.proofs.keys.write_each_key.Given as goal

abbrev pub invariant-loop-place : goal.invariant-loop-place
invariant-loop-place l = record {
  written : l.out.items ++ flat_map (key_bytes Three) (by_key (drop l.place (map lent_row l.rows))) ≡ l.initial.out.items ++ flat_map (key_bytes Three) (by_key (map lent_row l.rows));
  within : l.place ≤ length l.rows;
}

abbrev pub decreases-loop-place : goal.decreases-loop-place
decreases-loop-place l = length l.rows - l.place

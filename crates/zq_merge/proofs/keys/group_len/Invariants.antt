use Rattle.std.proofs.Common.{drop, map, ◌+◌, ◌≡◌}
use Rattle.zq_merge.specs.Groups.{group_len}
use Rattle.zq_shard.specs.Listed.{lent_row}
use Rattle.zq_merge.proofs.keys.group_len.Given as goal

abbrev pub invariant-loop-place : goal.invariant-loop-place
invariant-loop-place l = group_len l.key (map lent_row l.rows) ≡ l.place + group_len l.key (drop l.place (map lent_row l.rows))

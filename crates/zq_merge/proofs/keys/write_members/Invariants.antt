use Rattle.std.proofs.Common.{map, take, ◌++◌, ◌≡◌}
use Rattle.std.specs.List.{flat_map}
use Rattle.zq_merge.specs.Keys.{member_of}
use Rattle.zq_merge.specs.Spelling.{member_bytes}
use Rattle.zq_merge.specs.declared.version.Version.TheVariants.{Three}
use Rattle.zq_shard.specs.Listed.{lent_row}
use Rattle.zq_merge.proofs.keys.write_members.Given as goal

abbrev pub invariant-loop-row : goal.invariant-loop-row
invariant-loop-row l = l.out.items ≡ l.initial.out.items ++ flat_map (member_bytes Three) (take l.row-index (map member_of (map lent_row l.rows)))

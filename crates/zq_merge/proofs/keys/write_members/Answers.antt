use Rattle.std.proofs.Common.{arith, map}
use Rattle.zq_merge.proofs.Written.{at_in, at_map, each_written}
use Rattle.zq_merge.specs.Keys.{member_of}
use Rattle.zq_merge.specs.Spelling.{member_bytes}
use Rattle.zq_merge.specs.declared.version.Version.TheVariants.{Three}
use Rattle.zq_shard.specs.Listed.{lent_row}
use Rattle.zq_merge.proofs.keys.write_members.Goals as goal

pub write_member-requires-clause-member : goal.write_member-requires-clause-member
write_member-requires-clause-member c =
    (c.requires (lent_row c.row-item.result) (at_in lent_row c.args.rows.now c.loop-row.row-index c.row-item.result (omega arith) c.row-item.is)).member

pub write_member-requires-clause-additions : goal.write_member-requires-clause-additions
write_member-requires-clause-additions c =
    (c.requires (lent_row c.row-item.result) (at_in lent_row c.args.rows.now c.loop-row.row-index c.row-item.result (omega arith) c.row-item.is)).additions

pub loop-row-preserved : goal.loop-row-preserved
loop-row-preserved c =
    let rows = map lent_row c.args.rows.now in
    let row = lent_row c.row-item.result in
    let first = at_map lent_row c.args.rows.now c.loop-row.row-index c.row-item.result (omega arith) c.row-item.is in
    let second = at_map member_of rows c.loop-row.row-index row first.1 first.0 in
    each_written (member_bytes Three) c.args.out.now.items c.loop-row.out.items c.write_member.new.out.items (map member_of rows) c.loop-row.row-index (member_of row) second.1 second.0 c.loop-row.invariant c.in_ok-write_member.ensures

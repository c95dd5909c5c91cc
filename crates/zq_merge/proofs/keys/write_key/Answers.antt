use Rattle.std.proofs.Common.{arith, length, subst, ◌≤◌}
use Rattle.zq_merge.proofs.Written.{at_in}
use Rattle.zq_model.specs.Operation.{LONGEST}
use Rattle.zq_shard.specs.Listed.{lent_row}
use Rattle.zq_shard.specs.declared.row.RowRef.{RowRef}
use Rattle.zq_merge.proofs.keys.write_key.Goals as goal

pub write_text-requires : goal.write_text-requires
write_text-requires c =
    let some = c.requires.some in
    let P : RowRef → Type 0 = λ r. length r.key.now ≤ LONGEST in
    subst P c.index-rows-0.is (c.requires.writable (lent_row c.index-rows-0.result) (at_in lent_row c.args.rows.now 0 c.index-rows-0.result (omega arith) c.index-rows-0.is)).key

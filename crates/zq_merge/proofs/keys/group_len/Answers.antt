use Rattle.std.proofs.Common.{arith, map, rules, ◌≡◌, ◌≢◌}
use Rattle.zq_merge.proofs.KeyGroups.{group_ends, group_goes_on}
use Rattle.zq_merge.proofs.Written.{at_map}
use Rattle.zq_shard.specs.Listed.{lent_row}
use Rattle.zq_merge.proofs.keys.group_len.Goals as goal

pub returns-then-ne-clause-exact : goal.returns-then-ne-clause-exact
returns-then-ne-clause-exact c =
    let other : c.index-rows-place.result.key.now ≢ c.args.key.now = search rules in
    let at = at_map lent_row c.args.rows.now c.loop-place.place c.index-rows-place.result (omega arith) c.index-rows-place.is in
    let none = group_ends c.args.key.now (map lent_row c.args.rows.now) c.loop-place.place (lent_row c.index-rows-place.result) at.1 at.0 other in
    let so_far = c.loop-place.invariant in
    omega arith

pub loop-place-preserved : goal.loop-place-preserved
loop-place-preserved c =
    let same : c.index-rows-place.result.key.now ≡ c.args.key.now = search rules in
    let at = at_map lent_row c.args.rows.now c.loop-place.place c.index-rows-place.result (omega arith) c.index-rows-place.is in
    let more = group_goes_on c.args.key.now (map lent_row c.args.rows.now) c.loop-place.place (lent_row c.index-rows-place.result) at.1 at.0 same in
    let so_far = c.loop-place.invariant in
    omega arith

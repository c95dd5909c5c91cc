use Rattle.std.proofs.Common.{arith, length, rules, ◌-◌, ◌≤◌}
use Rattle.std.proofs.lemmas.List.Sorted.{IsPartitionPoint-from_clause}
use Rattle.zq_backlog.proofs.Chunked.{IsFound, begins_by, begun_first, found_at_point, newest_at, older_at}
use Rattle.zq_backlog.proofs.texts.chunk_of.Goals as goal

pub returns-then-number-newest-clause-text : goal.returns-then-number-newest-clause-text
returns-then-number-newest-clause-text c =
    newest_at c.args.older.now.items c.args.newest.now.first c.args.number c.args.newest.now.texts c.requires.joined (omega (arith, c.if-number-newest.true))

pub overflow_sub-behind : goal.overflow_sub-behind
overflow_sub-behind c =
    let cs = c.args.older.now.items in
    let n = c.args.newest.now.first in
    let m = c.args.number in
    let cut = begun_first cs n m c.requires.joined in
    let point = IsPartitionPoint-from_clause (begins_by m) cs c.partition_point-behind.result c.partition_point-behind.ensures.partitioned cut (λ a r f k. (search rules)) in
    let found : IsFound cs n m c.partition_point-behind.result = found_at_point cs n m c.partition_point-behind.result c.requires.joined c.requires.from (omega (arith, c.if-number-newest.false)) (grind arith) point in
    found.some

pub returns-clause-begins : goal.returns-clause-begins
returns-clause-begins c =
    let cs = c.args.older.now.items in
    let n = c.args.newest.now.first in
    let m = c.args.number in
    let cut = begun_first cs n m c.requires.joined in
    let point = IsPartitionPoint-from_clause (begins_by m) cs c.partition_point-behind.result c.partition_point-behind.ensures.partitioned cut (λ a r f k. (search rules)) in
    let found : IsFound cs n m c.partition_point-behind.result = found_at_point cs n m c.partition_point-behind.result c.requires.joined c.requires.from (omega (arith, c.if-number-newest.false)) (grind arith) point in
    found.begins c.index.result.now c.index.ensures

pub returns-clause-ends : goal.returns-clause-ends
returns-clause-ends c =
    let cs = c.args.older.now.items in
    let n = c.args.newest.now.first in
    let m = c.args.number in
    let cut = begun_first cs n m c.requires.joined in
    let point = IsPartitionPoint-from_clause (begins_by m) cs c.partition_point-behind.result c.partition_point-behind.ensures.partitioned cut (λ a r f k. (search rules)) in
    let found : IsFound cs n m c.partition_point-behind.result = found_at_point cs n m c.partition_point-behind.result c.requires.joined c.requires.from (omega (arith, c.if-number-newest.false)) (grind arith) point in
    found.ends c.index.result.now c.index.ensures

pub returns-clause-text : goal.returns-clause-text
returns-clause-text c =
    let cs = c.args.older.now.items in
    let n = c.args.newest.now.first in
    let m = c.args.number in
    let i = c.partition_point-behind.result in
    let cut = begun_first cs n m c.requires.joined in
    let point = IsPartitionPoint-from_clause (begins_by m) cs i c.partition_point-behind.ensures.partitioned cut (λ a r f k. (search rules)) in
    let within : i ≤ length cs = grind arith in
    let found : IsFound cs n m i = found_at_point cs n m i c.requires.joined c.requires.from (omega (arith, c.if-number-newest.false)) within point in
    let some = found.some in
    let at = older_at (i - 1) cs n m c.args.newest.now.texts c.index.result.now c.requires.joined (omega (arith, within, some)) c.index.ensures (returns-clause-begins c) (returns-clause-ends c) in
    at.1

use Rattle.std.proofs.Common.{ap}
use Rattle.zq_model.specs.Lent.{queues_of}
use Rattle.zq_semantics.proofs.Dropping.{count_dropped, last_of, lent_apart, moves_dropped, ranged_of}
use Rattle.zq_semantics.specs.Procedures.{last_pairs}
use Rattle.zq_semantics.specs.Ranges.{ranged}
use Rattle.zq_semantics.specs.Replies.{count_reply}
use Rattle.zq_semantics.proofs.procedures.removing.Goals as goal

pub returns-clause-range : goal.returns-clause-range
returns-clause-range c rule K books key range are =
    let queues = queues_of rule books in
    moves_dropped key (ranged range (queues key)) queues (ranged_of range (queues key) (lent_apart rule K books key are))

pub returns-clause-counted : goal.returns-clause-counted
returns-clause-counted c rule K books key range are =
    let queues = queues_of rule books in
    ap count_reply (count_dropped key (ranged range (queues key)) queues (ranged_of range (queues key) (lent_apart rule K books key are)))

pub returns-clause-last : goal.returns-clause-last
returns-clause-last c rule K books key n are =
    let queues = queues_of rule books in
    moves_dropped key (last_pairs n (queues key)) queues (last_of n (queues key) (lent_apart rule K books key are))

use Rattle.std.proofs.Common.{map, take, ◌++◌, ◌≡◌}
use Rattle.zq_model.specs.Rows.{row_of}
use Rattle.zq_queue.specs.Lent.{lent_entry}
use Rattle.zq_shard.specs.Listed.{lent_row}
use Rattle.zq_shard.proofs.lending.push_members.Given as goal

abbrev pub invariant-loop-member : goal.invariant-loop-member
invariant-loop-member l =
    map lent_row l.rows.items ≡ map lent_row l.fn.rows.items ++ map row_of (map (λ e. ((l.key, e.0), e.1)) (map lent_entry (take l.member-index l.member-items)))

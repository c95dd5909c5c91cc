use Rattle.std.specs.FinMap.{get}
use Rattle.std.specs.Prelude.{Some, length, map, reverse, vec_len, ◌++◌, ◌-◌, ◌≡◌, ◌≤◌}
use Rattle.zq_shard.specs.Listed.{lent_place}
use Rattle.zq_shard.specs.Standing.{left}
use Rattle.zq_shard.proofs.queues.Queues.walk.Given as goal

abbrev pub invariant-loop-next : goal.invariant-loop-next
invariant-loop-next l = record {
  parts : left l.self.order l.fn.spot ≡ left l.self.order l.next ++ reverse (map lent_place l.rows.items);
  entries : map (λ row. get l.self.members (lent_place row)) l.rows.items ≡ map (λ row. Some row.entry.now) l.rows.items;
  few : length l.rows.items ≤ l.most;
}

abbrev pub decreases-loop-next : goal.decreases-loop-next
decreases-loop-next l = l.most - vec_len l.rows

use Rattle.std.proofs.Common.{List, ◌≡◌}
use Rattle.zq_dots.specs.Placed.{Placed}
use Rattle.zq_model.specs.Sets.{IsIn}
use Rattle.zq_replica.specs.Gathered.{grown}
use Rattle.zq_replica.proofs.exchanging.take_all.Given as goal

abbrev pub invariant-loop-op : goal.invariant-loop-op
invariant-loop-op l =
    (some : List Placed) × ((o : Placed) → IsIn o some → IsIn o l.ops)
    × (l.shard ≡ grown some l.initial.shard)

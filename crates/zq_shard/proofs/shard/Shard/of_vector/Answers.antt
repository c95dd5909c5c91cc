use Rattle.std.proofs.Common.{subst, sym, ◌≡◌}
use Rattle.std.specs.Prelude.{[]}
use Rattle.zq_model.specs.Bounded.{IsBounded}
use Rattle.zq_model.specs.Rows.{image_of_rows}
use Rattle.zq_shard.proofs.Rowed.{bounded_vector}
use Rattle.zq_shard.proofs.shard.Shard.of_vector.Goals as goal

pub invariant_of-result : goal.invariant_of-result
invariant_of-result c =
    let image : record { vector = c.args.vector.now; members = c.new.result.members } ≡ image_of_rows c.args.vector.now [] = λ i. record { vector = c.args.vector.now; members = c.new.ensures.members i } in
    record { heaps = c.requires.heaps; heap = c.requires.heap; bounded = subst (IsBounded c.args.heaps c.args.heap) (sym image) (bounded_vector c.args.heaps c.args.heap c.args.vector.now c.requires.counters) }

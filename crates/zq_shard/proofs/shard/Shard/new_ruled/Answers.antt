use Rattle.std.proofs.Common.{subst, sym}
use Rattle.zq_model.proofs.BoundedImages.{bounded_empty}
use Rattle.zq_model.specs.Bounded.{IsBounded}
use Rattle.zq_model.specs.Image.{empty_image}
use Rattle.std.proofs.Common.{◌≡◌}
use Rattle.zq_shard.proofs.shard.Shard.new_ruled.Goals as goal

pub invariant_of-result : goal.invariant_of-result
invariant_of-result c =
    let image : record { vector = c.new.result; members = c.new-2.result.members } ≡ empty_image = λ i. record { vector = c.new.ensures i; members = c.new-2.ensures.members i } in
    record { heaps = c.requires.heaps; heap = c.requires.heap; bounded = subst (IsBounded c.args.heaps c.args.heap) (sym image) (bounded_empty c.args.heaps c.args.heap) }

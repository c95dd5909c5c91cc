use Rattle.std.proofs.Common.{ap, ◌∙◌}
use Rattle.std.specs.Prelude.{map, slice_get, suc}
use Rattle.zq_posheap.specs.Listing.{entry_row}
use Rattle.zq_posheap.proofs.pairs.PairsIterator.next.Goals as goal

pub invariant_of-self-2 : goal.invariant_of-self-2
invariant_of-self-2 g c = λ i row at. c.self.invariant (suc i) row (ap (λ entries. slice_get (map entry_row entries) (suc i)) c.in_ok-member.ensures.steps ∙ at)

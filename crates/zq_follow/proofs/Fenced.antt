-- No peer knows more of a site's operations than the site, where its run is the only one.
use Rattle.std.proofs.Common.{arith, subst, sym, ◌≡◌, ◌≤◌, ◌<◌}
use Rattle.std.specs.Prelude.{List, slice_index, ℕ}
use Rattle.zq_follow.specs.FenceLaws.{HasAllOfItsOwn, OperationsFenceNobody, VectorsFenceNobody}
use Rattle.zq_model.proofs.Dots.{last_above, last_below}
use Rattle.zq_model.specs.Operation.{Operation}
use Rattle.zq_model.specs.Sets.{IsIn, IsVector, last}

-- the peer's last counter is one of the site's
no_more : (world mine theirs : List Operation) (heap own : ℕ) → HasAllOfItsOwn world mine heap own → ((o : Operation) → IsIn o theirs → IsIn o world) → last theirs heap own ≤ last mine heap own
no_more world mine theirs heap own has from = last_below theirs heap own (last mine heap own) (λ o there in_heap of_site. last_above mine heap own o (has o (from o there) in_heap of_site) in_heap of_site)

pub vectors_fence_nobody : VectorsFenceNobody
vectors_fence_nobody world mine theirs heap own v u has from ours others above = omega (arith, above, ours.counter own, others.counter own, no_more world mine theirs heap own has from)

pub operations_fence_nobody : OperationsFenceNobody
operations_fence_nobody world mine heap own v o has there in_heap of_site ours above = omega (arith, above, ours.counter own, last_above mine heap own o (has o there in_heap of_site) in_heap of_site)

use Rattle.std.proofs.Common.{subst}
use Rattle.std.specs.FinMap.{empty}
use Rattle.std.specs.Prelude.{IfSome, IsNone, List, option_map, slice_get, ◌↔◌, ◌≡◌}
use Rattle.zq_posheap.proofs.Heads.{head_is, none_there}
use Rattle.zq_posheap.specs.First.{IsFirst}
use Rattle.zq_posheap.specs.InOrder.{ListsInOrder}
use Rattle.zq_posheap.specs.Listing.{lent_pair}
use Rattle.zq_posheap.specs.Members.{scores_of}
use Rattle.zq_posheap.specs.Order.{Scored}
use Rattle.zq_posheap.proofs.pos_heap.PosHeap.top.Goals as goal

pub returns-clause-none : goal.returns-clause-none
returns-clause-none g c = subst (λ m. IsNone c.first.result ↔ (m.held ≡ empty)) c.self.view_is (none_there _ c.first.result c.first.ensures.none c.first.ensures.first)

pub returns-clause-first : goal.returns-clause-first
returns-clause-first g c = subst (λ m. IfSome c.first.result (λ pair. IsFirst (scores_of m.held) (lent_pair pair))) c.self.view_is c.first.ensures.first

pub returns-clause-head : goal.returns-clause-head
returns-clause-head g c = subst (λ m. (pairs : List Scored) → ListsInOrder (scores_of m.held) pairs → slice_get pairs 0 ≡ option_map lent_pair c.first.result) c.self.view_is
    (head_is _ c.first.result c.first.ensures.none c.first.ensures.first)

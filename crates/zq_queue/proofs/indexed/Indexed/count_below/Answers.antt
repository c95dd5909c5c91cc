use Rattle.std.proofs.Common.{subst, sym, ◌∙◌}
use Rattle.std.proofs.lemmas.Int.{to_z-of_z}
use Rattle.std.specs.Int.{w128}
use Rattle.std.specs.Prelude.{count_by}
use Rattle.zq_posheap.specs.InOrder.{ListsInOrder}
use Rattle.zq_posheap.specs.Members.{scores_of}
use Rattle.zq_queue.proofs.Indexes.{index_lists}
use Rattle.zq_ranked.specs.Order.{is_below}
use Rattle.zq_queue.proofs.indexed.Indexed.count_below.Goals as goal

pub returns-in-Some : goal.returns-in-Some
returns-in-Some c = λ pairs order.
    let its = c.deref.ensures ∙ index_lists (scores_of c.self.inside.members.held) c.self.inside.index c.in-Some.index c.in-Some.is c.self.invariant.0 pairs
    (subst (λ m. ListsInOrder (scores_of m.held) pairs) (sym c.self.view_is) order) in
    c.count_below.ensures ∙ (λ k. count_by (is_below (to_z-of_z w128 c.args.score c.ranges.score k) c.args.or_equal) (its k))

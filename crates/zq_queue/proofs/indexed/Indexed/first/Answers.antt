use Rattle.std.proofs.Common.{ap, arith, subst, sym, ◌∙◌, ◌≡◌}
use Rattle.std.proofs.lemmas.Result.{IfOk-weaker}
use Rattle.std.specs.Prelude.{List, drop, map, take, ℕ, ◌-◌}
use Rattle.zq_posheap.specs.InOrder.{ListsInOrder}
use Rattle.zq_posheap.specs.Listing.{lent_pair}
use Rattle.zq_posheap.specs.Members.{scores_of}
use Rattle.zq_posheap.specs.Order.{Scored}
use Rattle.zq_queue.proofs.Indexes.{index_lists}
use Rattle.zq_queue.proofs.indexed.Indexed.first.Goals as goal

pub returns-in-Some : goal.returns-in-Some
returns-in-Some c =
    let held = c.args.self.now.held in
    let from : ℕ = 0 in
    let to = c.args.count in
    IfOk-weaker c.section.result (λ slice. map lent_pair slice.items ≡ take (to - from) (drop from c.deref.result.now))
    (λ slice. (pairs : List Scored) → ListsInOrder (scores_of held) pairs → map lent_pair slice.items ≡ take to pairs)
    (λ slice are pairs order.
    let all : to - 0 ≡ to = omega arith in
    are ∙ ap (λ xs. take (to - from) (drop from xs)) (c.deref.ensures ∙ index_lists (scores_of c.self.inside.members.held) c.self.inside.index c.in-Some.index c.in-Some.is c.self.invariant.0 pairs
    (subst (λ m. ListsInOrder (scores_of m.held) pairs) (sym c.self.view_is) order)) ∙ ap (λ n. take n pairs) all) c.section.ensures

use Rattle.std.proofs.Common.{arith, set}
use Rattle.zq_ranked.proofs.AtBranch.{block_at, pairs_at}
use Rattle.zq_ranked.proofs.Children.{absent_at, put_at}
use Rattle.zq_ranked.proofs.Joined.{child_at, child_itself, joined_same, joined_set, length_at, sorted_at}
use Rattle.zq_ranked.proofs.Puts.{length_put, on_err}
use Rattle.zq_ranked.specs.Key.{pair_of_key}
use Rattle.zq_ranked.specs.Shape.{joined}
use Rattle.zq_ranked.proofs.+insert.Goals as goal
use Rattle.zq_ranked.proofs.+insert.Goals.{node::Node::insert-in-Branch, node::Node::insert-in-Leaf}

pub fork::Fork::insert-insert-requires : goal.fork::Fork::insert-insert-requires
fork::Fork::insert-insert-requires t c =
    let xs = c.args.self.now.children.items in
    let i = c.place_of-place.result in
    let k = c.index_mut.result.now in
    let h = c.place_of-place.ensures.within in
    let e = c.index_mut.ensures.value in
    let child = child_at xs i k h e c.args.self.now.level c.requires.fork.each in
    (grind (arith, child.level), (child_itself c.args.self.now.level k child, (sorted_at xs i k h e c.requires.sorted, omega (arith, length_at xs i k h e, c.requires.fits))))

pub fork::Fork::insert-returns-in_err-added-clause-refused : goal.fork::Fork::insert-returns-in_err-added-clause-refused
fork::Fork::insert-returns-in_err-added-clause-refused t c =
    on_err c.from_residual.result (joined_same c.args.self.now.children.items c.place_of-place.result c.index_mut.result.now c.insert.new.self c.place_of-place.ensures.within c.index_mut.ensures.value c.in_err-added.ensures.refused)

pub fork::Fork::insert-returns-in_err-added-clause-refused_absent : goal.fork::Fork::insert-returns-in_err-added-clause-refused_absent
fork::Fork::insert-returns-in_err-added-clause-refused_absent t c =
    on_err c.from_residual.result (absent_at c.args.self.now.children.items c.place_of-place.result c.index_mut.result.now c.place_of-place.ensures.within c.index_mut.ensures.value (pair_of_key c.args.key.now) c.place_of-place.ensures.before c.place_of-place.ensures.after c.in_err-added.ensures.refused_absent)

pub fork::Fork::insert-divide-requires-clause-fits : goal.fork::Fork::insert-divide-requires-clause-fits
fork::Fork::insert-divide-requires-clause-fits t c =
    let xs = c.args.self.now.children.items in
    let i = c.place_of-place.result in
    let put = put_at xs i c.index_mut.result.now c.place_of-place.ensures.within c.index_mut.ensures.value (pair_of_key c.args.key.now) c.place_of-place.ensures.before c.place_of-place.ensures.after c.insert.new.self.node.0 (joined (set xs i c.insert.new.self)) _ (joined_set xs i c.insert.new.self c.place_of-place.ensures.within) c.in_ok-added.ensures.put in
    omega (arith, length_put (pair_of_key c.args.key.now) (joined xs) (joined (set xs i c.insert.new.self)) (rw c.if-added.true at put), c.requires.fits)

pub fork::Fork::insert-returns-then-added-clause-put : goal.fork::Fork::insert-returns-then-added-clause-put
fork::Fork::insert-returns-then-added-clause-put t c =
    let xs = c.args.self.now.children.items in
    let i = c.place_of-place.result in
    rw c.divide.ensures.pairs (put_at xs i c.index_mut.result.now c.place_of-place.ensures.within c.index_mut.ensures.value (pair_of_key c.args.key.now) c.place_of-place.ensures.before c.place_of-place.ensures.after c.insert.new.self.node.0 (joined (set xs i c.insert.new.self)) _ (joined_set xs i c.insert.new.self c.place_of-place.ensures.within) c.in_ok-added.ensures.put)

pub fork::Fork::insert-returns-else-added-clause-put : goal.fork::Fork::insert-returns-else-added-clause-put
fork::Fork::insert-returns-else-added-clause-put t c =
    let xs = c.args.self.now.children.items in
    let i = c.place_of-place.result in
    put_at xs i c.index_mut.result.now c.place_of-place.ensures.within c.index_mut.ensures.value (pair_of_key c.args.key.now) c.place_of-place.ensures.before c.place_of-place.ensures.after c.insert.new.self.node.0 (joined (set xs i c.insert.new.self)) _ (joined_set xs i c.insert.new.self c.place_of-place.ensures.within) c.in_ok-added.ensures.put

pub node::Node::insert-returns-clause-refused_absent : goal.node::Node::insert-returns-clause-refused_absent
node::Node::insert-returns-clause-refused_absent t c =
    elim c.match-self.branch [
      | node::Node::insert-in-Leaf w ↦ rw (w.result-is, block_at c.self.view_is w.in-Leaf.is) w.put_into.ensures.refused_absent
      | node::Node::insert-in-Branch w ↦ rw (w.result-is, pairs_at c.self.view_is w.in-Branch.is) w.insert.ensures.refused_absent
    ]

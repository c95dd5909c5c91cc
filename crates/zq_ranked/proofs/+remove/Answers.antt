use Rattle.std.proofs.Common.{ap, arith, length, rules, set, sym, ◌∙◌, ◌≡◌}
use Rattle.std.proofs.lemmas.List.{get_or-set_same}
use Rattle.zq_ranked.proofs.Children.{taken_at}
use Rattle.zq_ranked.proofs.Joined.{child_at, child_itself, joined_remove, joined_set, length_at, sorted_at}
use Rattle.zq_ranked.proofs.Puts.{length_taken}
use Rattle.zq_ranked.specs.Key.{pair_of_key}
use Rattle.zq_ranked.specs.Shape.{joined}
use Rattle.zq_ranked.proofs.+remove.Goals as goal

pub child::Child::remove-returns-then-self-gt0-clause-len : goal.child::Child::remove-returns-then-self-gt0-clause-len
child::Child::remove-returns-then-self-gt0-clause-len t c =
    omega (arith, c.requires.child.len, length_taken (pair_of_key c.args.key.now) c.args.self.now.node.0 c.remove-taken.new.self.0 c.requires.sorted (rw c.if-taken.true at c.remove-taken.ensures.taken))

pub child::Child::remove-returns-then-self-gt0-clause-child : goal.child::Child::remove-returns-then-self-gt0-clause-child
child::Child::remove-returns-then-self-gt0-clause-child t c = λ h.
    let less = length_taken (pair_of_key c.args.key.now) c.args.self.now.node.0 c.remove-taken.new.self.0 c.requires.sorted (rw c.if-taken.true at c.remove-taken.ensures.taken) in
    record { level = c.remove-taken.ensures.height; filled = h; len = omega (arith, c.requires.child.len, less); first = search rules }

pub child::Child::remove-returns-else-self-gt0-clause-len : goal.child::Child::remove-returns-else-self-gt0-clause-len
child::Child::remove-returns-else-self-gt0-clause-len t c =
    omega (arith, c.requires.child.len, length_taken (pair_of_key c.args.key.now) c.args.self.now.node.0 c.remove-taken.new.self.0 c.requires.sorted (rw c.if-taken.true at c.remove-taken.ensures.taken))

pub child::Child::remove-returns-else-self-gt0-clause-child : goal.child::Child::remove-returns-else-self-gt0-clause-child
child::Child::remove-returns-else-self-gt0-clause-child t c = λ h.
    let less = length_taken (pair_of_key c.args.key.now) c.args.self.now.node.0 c.remove-taken.new.self.0 c.requires.sorted (rw c.if-taken.true at c.remove-taken.ensures.taken) in
    absurd (omega (arith, c.requires.child.len, less, c.if-self-gt0.false, h))

pub fork::Fork::remove-remove-taken-requires : goal.fork::Fork::remove-remove-taken-requires
fork::Fork::remove-remove-taken-requires t c =
    let xs = c.args.self.now.children.items in
    let i = c.place_of-place.result in
    let k = c.index_mut.result.now in
    let h = c.place_of-place.ensures.within in
    let e = c.index_mut.ensures.value in
    let child = child_at xs i k h e c.args.self.now.level c.requires.fork.each in
    (grind (arith, child.level), (child_itself c.args.self.now.level k child, (sorted_at xs i k h e c.requires.sorted, omega (arith, length_at xs i k h e, c.requires.fits))))

pub fork::Fork::remove-returns-then-index-eq0-clause-taken : goal.fork::Fork::remove-returns-then-index-eq0-clause-taken
fork::Fork::remove-returns-then-index-eq0-clause-taken t c =
    let xs = c.args.self.now.children.items in
    let i = c.place_of-place.result in
    let k = c.index_mut.result.now in
    let left = c.remove-taken.new.self in
    let h = c.place_of-place.ensures.within in
    let here : c.index.result.now ≡ left = c.index.ensures ∙ get_or-set_same xs i left c.index.result.now h in
    let none : length left.node.0 ≡ 0 = sym c.remove-taken.ensures.len ∙ ap (λ x. x.len) (sym here) ∙ c.if-index-eq0.true in
    taken_at xs i k h c.index_mut.ensures.value (pair_of_key c.args.key.now) c.place_of-place.ensures.before c.place_of-place.ensures.after left.node.0 (joined c.remove.new.self.items) c.remove-taken.result (ap joined c.remove.ensures.items ∙ joined_remove xs i left h none) c.requires.sorted c.remove-taken.ensures.taken

pub fork::Fork::remove-returns-else-index-eq0-clause-taken : goal.fork::Fork::remove-returns-else-index-eq0-clause-taken
fork::Fork::remove-returns-else-index-eq0-clause-taken t c =
    let xs = c.args.self.now.children.items in
    let i = c.place_of-place.result in
    let k = c.index_mut.result.now in
    let left = c.remove-taken.new.self in
    let h = c.place_of-place.ensures.within in
    taken_at xs i k h c.index_mut.ensures.value (pair_of_key c.args.key.now) c.place_of-place.ensures.before c.place_of-place.ensures.after left.node.0 (joined (set xs i left)) c.remove-taken.result (joined_set xs i left h) c.requires.sorted c.remove-taken.ensures.taken

use Rattle.std.proofs.Common.{[], ap, append_assoc, arith, drop, length, subst, sym, take, ◌+◌, ◌++◌, ◌<◌, ◌≡◌, ◌∙◌, ◌-◌}
use Rattle.std.specs.List.{AllByRecursion}
use Rattle.zq_ranked.proofs.All.{all_take}
use Rattle.zq_ranked.proofs.AtBranch.{fork_at, height_at, pairs_at}
use Rattle.zq_ranked.proofs.Joined.{child_at, from_child, seek_within, take_joined}
use Rattle.zq_ranked.proofs.Paths.{backward_lower, backward_set, path_set}
use Rattle.zq_ranked.specs.Paths.{backward}
use Rattle.zq_ranked.specs.Shape.{IsChild, joined}
use Rattle.zq_ranked.proofs.path.Path.+enter_back.Goals as goal

pub enter_back-requires : goal.enter_back-requires
enter_back-requires t c =
    let xs = c.in-Branch.fork.children.items in
    let i = c.seek-index.result.0 in
    let k = c.index.result.now in
    let level = c.in-Branch.fork.level in
    let levels = c.args.self.now.levels in
    let each = (fork_at c.node.invariant c.in-Branch.is).each in
    let there = seek_within xs i (c.args.place - 1) c.seek-index.result.1 c.seek-index.ensures.within c.seek-index.ensures.place (omega (arith, c.requires.some, c.requires.within, ap length (pairs_at c.node.view_is c.in-Branch.is))) in
    let child = child_at xs i k there c.index.ensures level each in
    let low : AllByRecursion (IsChild level) (take i c.deref-in-Branch.result.now) = subst (λ l. AllByRecursion (IsChild level) (take i l)) (sym c.deref-in-Branch.ensures.value) (all_take _ xs i each) in
    let high = height_at c.node.view_is c.in-Branch.is in
    let spent : backward (take (level + 1) levels) ≡ [] = subst (λ n. backward (take n levels) ≡ []) high c.requires.spent in
    let inside = c.seek-index.ensures.inside.each k (drop (i + 1) xs) (from_child xs i k there c.index.ensures) in
    (grind (arith, child.level, high), (omega (arith, child.level, high, c.requires.low), (path_set levels level _ c.requires.path low, (rw child.level (backward_lower levels level _ spent), (omega arith, omega (arith, inside))))))

pub returns-in-Branch-clause-pairs : goal.returns-in-Branch-clause-pairs
returns-in-Branch-clause-pairs t c =
    let xs = c.in-Branch.fork.children.items in
    let i = c.seek-index.result.0 in
    let w = c.seek-index.result.1 in
    let k = c.index.result.now in
    let level = c.in-Branch.fork.level in
    let levels = c.args.self.now.levels in
    let pairs = pairs_at c.node.view_is c.in-Branch.is in
    let here = seek_within xs i (c.args.place - 1) w c.seek-index.ensures.within c.seek-index.ensures.place (omega (arith, c.requires.some, c.requires.within, ap length pairs)) in
    let first = from_child xs i k here c.index.ensures in
    let inside : w < length k.node.0 = c.seek-index.ensures.inside.each k (drop (i + 1) xs) first in
    let high = height_at c.node.view_is c.in-Branch.is in
    let spent : backward (take (level + 1) levels) ≡ [] = subst (λ n. backward (take n levels) ≡ []) high c.requires.spent in
    let there : level < length levels = grind (arith, high, c.requires.low) in
    let at : c.args.place ≡ length (joined (take i xs)) + (w + 1) = omega (arith, c.seek-index.ensures.place, c.requires.some) in
    let low : joined (take i c.deref-in-Branch.result.now) ≡ joined (take i xs) = ap (λ l. joined (take i l)) c.deref-in-Branch.ensures.value in
    c.enter_back.ensures.pairs ∙ ap (λ p. p ++ take (w + 1) k.node.0) (backward_set levels level _ there spent) ∙ ap (λ p. (backward levels ++ p) ++ take (w + 1) k.node.0) low ∙ append_assoc (backward levels) (joined (take i xs)) (take (w + 1) k.node.0) ∙ ap (λ p. backward levels ++ p) (sym (take_joined xs i k (drop (i + 1) xs) c.args.place (w + 1) first at (omega (arith, inside)))) ∙ ap (λ p. backward levels ++ take c.args.place p) (sym pairs)

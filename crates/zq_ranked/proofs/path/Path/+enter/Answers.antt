use Rattle.std.proofs.Common.{[], ap, append_assoc, arith, drop, length, subst, sym, take, ◌+◌, ◌++◌, ◌<◌, ◌≡◌, ◌∙◌, ◌∷◌}
use Rattle.std.specs.List.{AllByRecursion}
use Rattle.zq_ranked.proofs.All.{all_drop}
use Rattle.zq_ranked.proofs.AtBranch.{fork_at, height_at, pairs_at}
use Rattle.zq_ranked.proofs.Joined.{drop_joined, first_of}
use Rattle.zq_ranked.proofs.Paths.{onward_lower, onward_set, path_set}
use Rattle.zq_ranked.specs.Paths.{onward}
use Rattle.zq_ranked.specs.Shape.{IsChild, joined}
use Rattle.zq_ranked.proofs.path.Path.+enter.Goals as goal

pub enter-requires : goal.enter-requires
enter-requires t c =
    let xs = c.in-Branch.fork.children.items in
    let i = c.seek-index.result.0 in
    let level = c.in-Branch.fork.level in
    let levels = c.args.self.now.levels in
    let first = first_of xs c.deref-in-Branch.result.now i c.in-Some.child.now c.in-Some.others.now c.deref-in-Branch.ensures.value c.in-Some.ensures.cases.0 in
    let all : AllByRecursion (IsChild level) (c.in-Some.child.now ∷ c.in-Some.others.now) = subst (λ l. AllByRecursion (IsChild level) l) first (all_drop _ xs i (fork_at c.node.invariant c.in-Branch.is).each) in
    let high = height_at c.node.view_is c.in-Branch.is in
    let spent : onward (take (level + 1) levels) ≡ [] = subst (λ n. onward (take n levels) ≡ []) high c.requires.spent in
    (grind (arith, all.0.level, high), (omega (arith, all.0.level, high, c.requires.low), (path_set levels level c.in-Some.others c.requires.path all.1, rw all.0.level (onward_lower levels level c.in-Some.others spent))))

pub returns-in-Some-clause-pairs : goal.returns-in-Some-clause-pairs
returns-in-Some-clause-pairs t c =
    let xs = c.in-Branch.fork.children.items in
    let i = c.seek-index.result.0 in
    let w = c.seek-index.result.1 in
    let k = c.in-Some.child.now in
    let cs = c.in-Some.others.now in
    let level = c.in-Branch.fork.level in
    let levels = c.args.self.now.levels in
    let first = first_of xs c.deref-in-Branch.result.now i k cs c.deref-in-Branch.ensures.value c.in-Some.ensures.cases.0 in
    let high = height_at c.node.view_is c.in-Branch.is in
    let spent : onward (take (level + 1) levels) ≡ [] = subst (λ n. onward (take n levels) ≡ []) high c.requires.spent in
    let there : level < length levels = grind (arith, high, c.requires.low) in
    let inside : w < length k.node.0 = c.seek-index.ensures.inside.each k cs first in
    c.enter.ensures.pairs ∙ ap (λ p. drop w k.node.0 ++ p) (onward_set levels level c.in-Some.others there spent) ∙ sym (append_assoc (drop w k.node.0) (joined cs) (onward levels)) ∙ ap (λ p. p ++ onward levels) (sym (drop_joined xs i k cs c.args.place w first c.seek-index.ensures.place (omega (arith, inside)))) ∙ ap (λ p. drop c.args.place p ++ onward levels) (sym (pairs_at c.node.view_is c.in-Branch.is))

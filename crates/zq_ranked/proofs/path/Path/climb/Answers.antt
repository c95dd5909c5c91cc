use Rattle.std.proofs.Common.{[], ap, arith, length, set, subst, sym, take, ◌<◌, ◌≡◌, ◌≤◌, ◌∙◌, ◌∷◌}
use Rattle.std.proofs.lemmas.List.{take-set}
use Rattle.zq_ranked.proofs.Paths.{level_at, onward_first, onward_more, path_set}
use Rattle.zq_ranked.specs.Paths.{IsPath, onward}
use Rattle.zq_ranked.proofs.path.Path.climb.Goals as goal

pub enter-requires-clause-low : goal.enter-requires-clause-low
enter-requires-clause-low c =
    let levels = c.loop-level.self.levels in
    let i = c.loop-level.level in
    let b = c.index-levels-level.result in
    let there : i < length levels = grind arith in
    let kept : levels ≡ c.args.self.now.levels = ap (λ p. p.levels) c.loop-level.invariant.0 in
    let path : IsPath levels = subst (λ l. IsPath l) (sym kept) c.requires.path in
    let all = level_at levels i b (c.in-Some.child.now ∷ c.in-Some.others.now) path there c.index-levels-level.is c.in-Some.ensures.cases.0 in
    let low : c.in-Some.child.now.node.1 ≤ 12 = omega (arith, all.0.level, c.loop-level-test.true) in
    low

pub enter-requires-clause-path : goal.enter-requires-clause-path
enter-requires-clause-path c =
    let levels = c.loop-level.self.levels in
    let i = c.loop-level.level in
    let b = c.index-levels-level.result in
    let there : i < length levels = grind arith in
    let kept : levels ≡ c.args.self.now.levels = ap (λ p. p.levels) c.loop-level.invariant.0 in
    let path : IsPath levels = subst (λ l. IsPath l) (sym kept) c.requires.path in
    let all = level_at levels i b (c.in-Some.child.now ∷ c.in-Some.others.now) path there c.index-levels-level.is c.in-Some.ensures.cases.0 in
    path_set levels i c.in-Some.others path all.1

pub enter-requires-clause-spent : goal.enter-requires-clause-spent
enter-requires-clause-spent c =
    let levels = c.loop-level.self.levels in
    let i = c.loop-level.level in
    let b = c.index-levels-level.result in
    let there : i < length levels = grind arith in
    let kept : levels ≡ c.args.self.now.levels = ap (λ p. p.levels) c.loop-level.invariant.0 in
    let path : IsPath levels = subst (λ l. IsPath l) (sym kept) c.requires.path in
    let all = level_at levels i b (c.in-Some.child.now ∷ c.in-Some.others.now) path there c.index-levels-level.is c.in-Some.ensures.cases.0 in
    let spent : onward (take c.in-Some.child.now.node.1 (set levels i c.in-Some.others)) ≡ [] = rw all.0.level (ap onward (take-set levels i c.in-Some.others) ∙ c.loop-level.invariant.1) in
    spent

pub returns-in-Some-clause-pairs : goal.returns-in-Some-clause-pairs
returns-in-Some-clause-pairs c =
    let levels = c.loop-level.self.levels in
    let i = c.loop-level.level in
    let b = c.index-levels-level.result in
    let there : i < length levels = grind arith in
    let kept : levels ≡ c.args.self.now.levels = ap (λ p. p.levels) c.loop-level.invariant.0 in
    let path : IsPath levels = subst (λ l. IsPath l) (sym kept) c.requires.path in
    c.enter.ensures.pairs ∙ sym (onward_first levels i b there c.index-levels-level.is c.in-Some.child.now c.in-Some.others c.in-Some.ensures.cases.0 c.loop-level.invariant.1) ∙ ap onward kept

pub returns-in-Some-clause-some : goal.returns-in-Some-clause-some
returns-in-Some-clause-some c =
    let levels = c.loop-level.self.levels in
    let i = c.loop-level.level in
    let b = c.index-levels-level.result in
    let there : i < length levels = grind arith in
    let kept : levels ≡ c.args.self.now.levels = ap (λ p. p.levels) c.loop-level.invariant.0 in
    let path : IsPath levels = subst (λ l. IsPath l) (sym kept) c.requires.path in
    let all = level_at levels i b (c.in-Some.child.now ∷ c.in-Some.others.now) path there c.index-levels-level.is c.in-Some.ensures.cases.0 in
    (λ h. c.enter.ensures.some all.0.filled)

pub loop-level-preserved : goal.loop-level-preserved
loop-level-preserved c =
    let levels = c.loop-level.self.levels in
    let i = c.loop-level.level in
    let b = c.index-levels-level.result in
    let there : i < length levels = grind arith in
    let kept : levels ≡ c.args.self.now.levels = ap (λ p. p.levels) c.loop-level.invariant.0 in
    let path : IsPath levels = subst (λ l. IsPath l) (sym kept) c.requires.path in
    (c.loop-level.invariant.0, onward_more levels i b there c.index-levels-level.is c.in_default.ensures.cases c.loop-level.invariant.1)

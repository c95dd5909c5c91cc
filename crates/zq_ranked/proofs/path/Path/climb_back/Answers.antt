use Rattle.std.proofs.Common.{[], ap, arith, length, set, subst, sym, take, ◌++◌, ◌<◌, ◌≡◌, ◌≤◌, ◌∙◌, ◌∷◌}
use Rattle.std.proofs.lemmas.List.{take-set, take_all}
use Rattle.zq_ranked.proofs.All.{all_back, all_front}
use Rattle.zq_ranked.proofs.Paths.{backward_last, backward_more, level_at, path_set}
use Rattle.zq_ranked.specs.Paths.{IsPath, backward}
use Rattle.zq_ranked.proofs.path.Path.climb_back.Goals as goal

pub enter_back-requires-clause-low : goal.enter_back-requires-clause-low
enter_back-requires-clause-low c =
    let levels = c.loop-level.self.levels in
    let i = c.loop-level.level in
    let b = c.index-levels-level.result in
    let there : i < length levels = grind arith in
    let kept : levels ≡ c.args.self.now.levels = ap (λ p. p.levels) c.loop-level.invariant.0 in
    let path : IsPath levels = subst (λ l. IsPath l) (sym kept) c.requires.path in
    let all = level_at levels i b (c.in-Some.others.now ++ (c.in-Some.child.now ∷ [])) path there c.index-levels-level.is c.in-Some.ensures.cases.0 in
    let child = (all_back _ c.in-Some.others.now (c.in-Some.child.now ∷ []) all).0 in
    let low : c.in-Some.child.now.node.1 ≤ 12 = omega (arith, child.level, c.loop-level-test.true) in
    low

pub enter_back-requires-clause-path : goal.enter_back-requires-clause-path
enter_back-requires-clause-path c =
    let levels = c.loop-level.self.levels in
    let i = c.loop-level.level in
    let b = c.index-levels-level.result in
    let there : i < length levels = grind arith in
    let kept : levels ≡ c.args.self.now.levels = ap (λ p. p.levels) c.loop-level.invariant.0 in
    let path : IsPath levels = subst (λ l. IsPath l) (sym kept) c.requires.path in
    let all = level_at levels i b (c.in-Some.others.now ++ (c.in-Some.child.now ∷ [])) path there c.index-levels-level.is c.in-Some.ensures.cases.0 in
    path_set levels i c.in-Some.others path (all_front _ c.in-Some.others.now (c.in-Some.child.now ∷ []) all)

pub enter_back-requires-clause-spent : goal.enter_back-requires-clause-spent
enter_back-requires-clause-spent c =
    let levels = c.loop-level.self.levels in
    let i = c.loop-level.level in
    let b = c.index-levels-level.result in
    let there : i < length levels = grind arith in
    let kept : levels ≡ c.args.self.now.levels = ap (λ p. p.levels) c.loop-level.invariant.0 in
    let path : IsPath levels = subst (λ l. IsPath l) (sym kept) c.requires.path in
    let all = level_at levels i b (c.in-Some.others.now ++ (c.in-Some.child.now ∷ [])) path there c.index-levels-level.is c.in-Some.ensures.cases.0 in
    let child = (all_back _ c.in-Some.others.now (c.in-Some.child.now ∷ []) all).0 in
    let spent : backward (take c.in-Some.child.now.node.1 (set levels i c.in-Some.others)) ≡ [] = rw child.level (ap backward (take-set levels i c.in-Some.others) ∙ c.loop-level.invariant.1) in
    spent

pub enter_back-requires-clause-some : goal.enter_back-requires-clause-some
enter_back-requires-clause-some c =
    let levels = c.loop-level.self.levels in
    let i = c.loop-level.level in
    let b = c.index-levels-level.result in
    let there : i < length levels = grind arith in
    let kept : levels ≡ c.args.self.now.levels = ap (λ p. p.levels) c.loop-level.invariant.0 in
    let path : IsPath levels = subst (λ l. IsPath l) (sym kept) c.requires.path in
    let all = level_at levels i b (c.in-Some.others.now ++ (c.in-Some.child.now ∷ [])) path there c.index-levels-level.is c.in-Some.ensures.cases.0 in
    let child = (all_back _ c.in-Some.others.now (c.in-Some.child.now ∷ []) all).0 in
    let some : 0 < c.in-Some.child.now.len = omega (arith, child.filled, child.len) in
    some

pub enter_back-requires-clause-within : goal.enter_back-requires-clause-within
enter_back-requires-clause-within c =
    let levels = c.loop-level.self.levels in
    let i = c.loop-level.level in
    let b = c.index-levels-level.result in
    let there : i < length levels = grind arith in
    let kept : levels ≡ c.args.self.now.levels = ap (λ p. p.levels) c.loop-level.invariant.0 in
    let path : IsPath levels = subst (λ l. IsPath l) (sym kept) c.requires.path in
    let all = level_at levels i b (c.in-Some.others.now ++ (c.in-Some.child.now ∷ [])) path there c.index-levels-level.is c.in-Some.ensures.cases.0 in
    let child = (all_back _ c.in-Some.others.now (c.in-Some.child.now ∷ []) all).0 in
    let within : c.in-Some.child.now.len ≤ length c.in-Some.child.now.node.0 = omega (arith, child.len) in
    within

pub returns-in-Some-clause-pairs : goal.returns-in-Some-clause-pairs
returns-in-Some-clause-pairs c =
    let levels = c.loop-level.self.levels in
    let i = c.loop-level.level in
    let b = c.index-levels-level.result in
    let there : i < length levels = grind arith in
    let kept : levels ≡ c.args.self.now.levels = ap (λ p. p.levels) c.loop-level.invariant.0 in
    let path : IsPath levels = subst (λ l. IsPath l) (sym kept) c.requires.path in
    let all = level_at levels i b (c.in-Some.others.now ++ (c.in-Some.child.now ∷ [])) path there c.index-levels-level.is c.in-Some.ensures.cases.0 in
    let child = (all_back _ c.in-Some.others.now (c.in-Some.child.now ∷ []) all).0 in
    c.enter_back.ensures.pairs ∙ ap (λ p. backward (set levels i c.in-Some.others) ++ p) (take_all c.in-Some.child.now.len c.in-Some.child.now.node.0 (omega (arith, child.len))) ∙ sym (backward_last levels i b there c.index-levels-level.is c.in-Some.child.now c.in-Some.others c.in-Some.ensures.cases.0 c.loop-level.invariant.1) ∙ ap backward kept

pub loop-level-preserved : goal.loop-level-preserved
loop-level-preserved c =
    let levels = c.loop-level.self.levels in
    let i = c.loop-level.level in
    let b = c.index-levels-level.result in
    let there : i < length levels = grind arith in
    let kept : levels ≡ c.args.self.now.levels = ap (λ p. p.levels) c.loop-level.invariant.0 in
    let path : IsPath levels = subst (λ l. IsPath l) (sym kept) c.requires.path in
    (c.loop-level.invariant.0, backward_more levels i b there c.index-levels-level.is c.in_default.ensures.cases c.loop-level.invariant.1)

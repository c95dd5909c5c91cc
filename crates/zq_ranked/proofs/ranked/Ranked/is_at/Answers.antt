use Rattle.std.proofs.Common.{◌≡◌, arith, subst, sym, true≢false}
use Rattle.std.specs.List.{Contains}
use Rattle.zq_ranked.proofs.Sorted.{stands_nowhere, stands_there}
use Rattle.zq_ranked.specs.Key.{pair_of_key}
use Rattle.zq_ranked.specs.Order.{rank_of}
use Rattle.zq_ranked.proofs.ranked.Ranked.is_at.Goals as goal

pub returns-in-Some-clause-present : goal.returns-in-Some-clause-present
returns-in-Some-clause-present c =
    let t = pair_of_key c.args.key.now in
    let p = subst (λ l. c.args.place ≡ rank_of t l) (sym c.self.view_is) c.requires in
    let item = c.in-Some.ensures.item in
    let there = stands_there c.self.inside.root.0 c.args.place t c.self.invariant.0.sorted p c.block_from.result.now _ c.in-Some.pair.now c.block_from.ensures.part item.3.0 (item.3.1 t) in
    rw (c.is_eq.ensures, c.order.ensures, ← c.self.view_is) there

pub returns-in-None-clause-present : goal.returns-in-None-clause-present
returns-in-None-clause-present c =
    let t = pair_of_key c.args.key.now in
    let p = subst (λ l. c.args.place ≡ rank_of t l) (sym c.self.view_is) c.requires in
    let absent = stands_nowhere c.self.inside.root.0 c.args.place t c.self.invariant.0.sorted p (grind (arith, c.block_from.ensures.some, c.in-None.ensures.item)) in
    (λ h. absurd (true≢false (sym h)), λ k. absurd (absent (subst (λ l. Contains l t) (sym c.self.view_is) k)))

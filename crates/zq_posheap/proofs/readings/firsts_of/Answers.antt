use Rattle.std.proofs.Common.{arith, subst, ◌∙◌}
use Rattle.std.specs.Prelude.{IsPermutation, length, min, ◌++◌, ◌≡◌, ◌∷◌}
use Rattle.zq_posheap.proofs.Firsts.{splits_all, splits_around}
use Rattle.zq_posheap.proofs.readings.firsts_of.Goals as goal

pub returns-then-count-len : goal.returns-then-count-len
returns-then-count-len c = splits_all c.args.pairs.items (min c.args.count (length c.args.pairs.items)) (omega (arith, c.if-count-len.true, c.len.ensures, c.args.pairs.ok.0))

pub returns : goal.returns
returns c =
    let chosen = c.select_nth_unstable-firsts.result in
    let ensures = c.select_nth_unstable-firsts.ensures in
    let all = c.args.pairs.items in
    let least : c.args.count ≡ min c.args.count (length all) = omega (arith, c.if-count-len.false, c.len.ensures, c.args.pairs.ok.0) in
    splits_around all chosen.0.now chosen.1.now chosen.2.now c.in_ok-firsts.firsts.items (min c.args.count (length all))
    (c.in_ok-firsts.ensures.items_if_clones_equal (λ x y same k. (same.0 k, same.1 k)))
    (subst (λ xs. IsPermutation xs (chosen.0.now ++ chosen.1.now ∷ chosen.2.now)) c.deref_mut.ensures.value ensures.permutation) (ensures.front_len ∙ least) ensures.partitioned

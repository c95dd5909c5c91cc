use Rattle.std.proofs.Common.{arith, subst}
use Rattle.std.specs.Prelude.{IsPermutation, length, ◌++◌, ◌+◌, ◌≡◌, ◌∷◌}
use Rattle.zq_posheap.proofs.Slices.{leaves_all, leaves_around}
use Rattle.zq_posheap.proofs.readings.lasts_of.Goals as goal

pub returns-then-count-eq0 : goal.returns-then-count-eq0
returns-then-count-eq0 c = leaves_all c.args.pairs.items c.args.count c.if-count-eq0.true

pub returns : goal.returns
returns c =
    let chosen = c.select_nth_unstable-lasts.result in
    let ensures = c.select_nth_unstable-lasts.ensures in
    let long : length chosen.0.now + 1 ≡ c.args.count = omega (arith, ensures.front_len, c.if-count-eq0.false) in
    leaves_around c.args.pairs.items chosen.0.now chosen.1.now chosen.2.now c.in_ok-lasts.lasts.items c.args.count
    (c.in_ok-lasts.ensures.items_if_clones_equal (λ x y same k. (same.0 k, same.1 k)))
    (subst (λ xs. IsPermutation xs (chosen.0.now ++ chosen.1.now ∷ chosen.2.now)) c.deref_mut.ensures.value ensures.permutation) long ensures.partitioned

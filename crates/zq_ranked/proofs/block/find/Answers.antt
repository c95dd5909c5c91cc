use Rattle.std.proofs.Common.{arith, sym, true≢false, ◌∙◌}
use Rattle.std.proofs.lemmas.Grind.{common_steps}
use Rattle.zq_ranked.proofs.Puts.{there_at}
use Rattle.zq_ranked.proofs.Sorted.{stands_nowhere}
use Rattle.zq_ranked.specs.Key.{pair_of_key}
use Rattle.zq_ranked.proofs.block.find.Goals as goal
use Rattle.zq_ranked.proofs.block.find.Goals.{else-place-block-via-then-place-block+else-is_eq, else-place-block-via-else-place-block}

pub returns-then-is_eq-clause-there : goal.returns-then-is_eq-clause-there
returns-then-is_eq-clause-there c =
    let t = pair_of_key c.args.key.now in
    let at = there_at c.args.block.now c.rank_in-place.result t c.index-block-place.result c.requires c.rank_in-place.ensures (grind (arith, common_steps)) (grind (arith, common_steps)) in
    at.0 (cc (c.is_eq.ensures, c.order.ensures, c.if-is_eq.true))

pub returns-clause-absent : goal.returns-clause-absent
returns-clause-absent c =
    let t = pair_of_key c.args.key.now in
    elim c.else-place-block.branch [
      | else-place-block-via-then-place-block+else-is_eq w ↦ λ k.
          let at = there_at c.args.block.now c.rank_in-place.result t w.index-block-place.result c.requires c.rank_in-place.ensures (grind (arith, common_steps)) (grind (arith, common_steps)) in
          absurd (true≢false (sym (at.1 k) ∙ (cc (w.is_eq.ensures, w.order.ensures, w.if-is_eq.false))))
      | else-place-block-via-else-place-block w ↦ λ k. stands_nowhere c.args.block.now c.rank_in-place.result t c.requires c.rank_in-place.ensures (grind (arith, common_steps)) k
    ]

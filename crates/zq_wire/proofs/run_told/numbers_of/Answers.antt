use Rattle.std.proofs.Common.{arith, length-set, refl, ◌≤◌, ◌≡◌, ◌∙◌}
use Rattle.zq_wire.proofs.Numbers.{all_there, one_more}
use Rattle.zq_wire.proofs.run_told.numbers_of.Goals as goal

pub loop-index-init : goal.loop-index-init
loop-index-init c = record { goes = refl; long = refl }

pub loop-index-preserved : goal.loop-index-preserved
loop-index-preserved c =
    record {
      goes =
          one_more _ c.loop-index.numbers c.loop-index.rest.now c.next_number-number.result.1.now c.loop-index.index c.next_number-number.result.0 c.loop-index-test.true c.loop-index.invariant.long
          c.loop-index.invariant.goes c.next_number-number.ensures;
      long = length-set c.loop-index.numbers c.loop-index.index c.next_number-number.result.0 ∙ c.loop-index.invariant.long;
    }

pub returns : goal.returns
returns c =
    let below : c.loop-index.index ≤ 16 = c.loop-index.auto.index-end in
    let above : 16 ≤ c.loop-index.index = c.loop-index-test.false in
    let end : c.loop-index.index ≡ 16 = omega (arith, below, above) in
    all_there _ c.loop-index.numbers c.loop-index.rest.now c.loop-index.index end c.loop-index.invariant.long c.loop-index.invariant.goes

use Rattle.std.proofs.Common.{arith}
use Rattle.zq_store.proofs.EscapedLengths.{escaped_more}
use Rattle.zq_store.proofs.escapes.escapes.Goals as goal
use Rattle.zq_store.proofs.escapes.escapes.Goals.{then-is_escaped, else-is_escaped}

pub overflow_add-count : goal.overflow_add-count
overflow_add-count c = omega (arith, c.loop-byte.invariant.few, c.loop-byte-test.true)

pub loop-byte-preserved : goal.loop-byte-preserved
loop-byte-preserved c =
    let more = escaped_more c.args.bytes.now c.loop-byte.byte-index c.loop-byte-test.true in
    elim c.if-is_escaped.branch [
      | then-is_escaped w ↦ record {
        count = omega (arith, more, w.count-is, c.is_escaped.ensures.two w.if-is_escaped.true, c.loop-byte.invariant.count);
        few = omega (arith, w.count-is, c.loop-byte.invariant.few);
      }
      | else-is_escaped w ↦ record {
        count = omega (arith, more, w.count-is, c.is_escaped.ensures.one w.if-is_escaped.false, c.loop-byte.invariant.count);
        few = omega (arith, w.count-is, c.loop-byte.invariant.few);
      }
    ]

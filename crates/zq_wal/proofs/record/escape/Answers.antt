use Rattle.std.proofs.Common.{arith}
use Rattle.zq_wal.proofs.Escaping.{escaped_step}
use Rattle.zq_wal.proofs.record.escape.Goals as goal

pub loop-byte-preserved : goal.loop-byte-preserved
loop-byte-preserved c =
    escaped_step c.args.bytes.now c.loop-byte.byte-index c.args.out.now.items c.loop-byte.out.items c.escape_byte.new.out.items (omega arith) c.loop-byte.invariant
    (c.in_ok-escape_byte.ensures)

use Rattle.std.proofs.Common.{arith}
use Rattle.zq_resp.proofs.Lines.{digits_begin}
use Rattle.zq_resp.proofs.reader.line.Line.step.Goals as goal

pub returns-in-48-to-57 : goal.returns-in-48-to-57
returns-in-48-to-57 c =
    rw c.in-Start.is (omega arith, digits_begin c.args.limit c.args.byte (omega arith) (omega arith))

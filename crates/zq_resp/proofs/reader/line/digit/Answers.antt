use Rattle.std.proofs.Common.{arith}
use Rattle.zq_resp.proofs.Lines.{digits_grow}
use Rattle.zq_resp.proofs.reader.line.digit.Goals as goal

pub returns-else-longer-limit : goal.returns-else-longer-limit
returns-else-longer-limit c =
    (omega arith, digits_grow c.args.limit c.args.number c.args.byte (omega arith) (omega arith) (omega arith) (omega arith) (omega arith))

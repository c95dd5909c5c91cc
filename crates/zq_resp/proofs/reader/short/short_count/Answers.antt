use Rattle.std.proofs.Common.{arith}
use Rattle.zq_resp.proofs.Pieces.{head_of_one}
use Rattle.zq_resp.proofs.reader.short.short_count.Goals as goal

pub returns-clause-line : goal.returns-clause-line
returns-clause-line c =
    head_of_one 42 c.args.bytes.now (omega arith) (omega arith) (omega arith) (omega arith) (omega arith) (omega arith)

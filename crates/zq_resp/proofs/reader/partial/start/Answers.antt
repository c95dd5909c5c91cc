use Rattle.std.proofs.Common.{arith}
use Rattle.zq_resp.proofs.Counts.{starts}
use Rattle.zq_resp.proofs.reader.partial.start.Goals as goal

pub returns-in-Some-clause-step : goal.returns-in-Some-clause-step
returns-in-Some-clause-step c =
    rw c.with_words.ensures (starts c.in-Some.count 4 c.args.bytes.now c.new.result (omega (arith, c.in-Some.ensures.digit)) c.in-Some.ensures.line c.new.ensures)

use Rattle.std.proofs.Common.{arith}
use Rattle.zq_resp.proofs.Words.{word_wrong, word_begins, word_read}
use Rattle.zq_resp.proofs.Pieces.{one_byte}
use Rattle.zq_resp.proofs.reader.word.start.Goals as goal

pub returns-then-bytes-ne36-clause-step : goal.returns-then-bytes-ne36-clause-step
returns-then-bytes-ne36-clause-step c = λ more. word_wrong c.args.bytes.now more (omega arith) (λ is. omega arith)

pub returns-clause-step : goal.returns-clause-step
returns-clause-step c = (tt, word_begins _ (one_byte c.args.bytes.now 36 (omega arith) (omega arith)))

pub returns-in-Some-clause-step : goal.returns-in-Some-clause-step
returns-in-Some-clause-step c =
    rw c.in_ok-from_slice.ensures.items (c.in-Some.ensures.small, word_read _ _ c.in-Some.ensures.small c.in-Some.ensures.word)

use Rattle.std.proofs.Common.{arith}
use Rattle.zq_resp.proofs.Pieces.{head_of_one, head_of_two}
use Rattle.zq_resp.proofs.reader.short.short_word.Goals as goal

pub word_behind-requires-clause-line : goal.word_behind-requires-clause-line
word_behind-requires-clause-line c =
    head_of_one 36 c.args.bytes.now (omega arith) (omega arith) (omega arith) (omega arith) (omega arith) (omega arith)

pub word_behind-requires-2-clause-line : goal.word_behind-requires-2-clause-line
word_behind-requires-2-clause-line c =
    head_of_two c.args.bytes.now (omega arith) (omega arith) (omega arith) (omega arith) (omega arith) (omega arith) (omega arith) (omega arith)

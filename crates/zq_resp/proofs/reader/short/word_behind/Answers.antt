use Rattle.std.proofs.Common.{arith}
use Rattle.zq_resp.proofs.Pieces.{spelled_behind}
use Rattle.zq_resp.proofs.reader.short.word_behind.Goals as goal

pub returns-clause-word : goal.returns-clause-word
returns-clause-word c =
    spelled_behind c.args.bytes.now c.args.start c.args.size (omega arith) c.requires.line (omega arith) (omega arith)

use Rattle.zq_semantics.proofs.Questions.{questions_done, questions_read}
use Rattle.zq_semantics.proofs.answers.asking.Goals as goal

pub returns-clause-reads : goal.returns-clause-reads
returns-clause-reads c words command = questions_read words command

pub returns-clause-done : goal.returns-clause-done
returns-clause-done c rule K site w1 w2 st words is worn = questions_done rule K site w1 w2 st worn words is

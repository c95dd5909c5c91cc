use Rattle.zq_commands.proofs.FirstPairs.{none_copied}
use Rattle.zq_commands.specs.Lending.{queues_in}
use Rattle.zq_commands.proofs.del.drop_first.Goals as goal

pub returns-in-None-clause-empty : goal.returns-in-None-clause-empty
returns-in-None-clause-empty g c = λ _. none_copied (queues_in (g.B.Books.lent c.args.books.now) c.args.key.now) c.in_ok-pair.field-0 c.in-None.is c.in_ok-pair.ensures.copied

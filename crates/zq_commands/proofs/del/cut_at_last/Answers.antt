use Rattle.zq_commands.proofs.FirstPairs.{first_there}
use Rattle.zq_commands.specs.FirstPairs.{top_pair}
use Rattle.zq_commands.specs.Lending.{queues_in}
use Rattle.zq_commands.proofs.del.cut_at_last.Goals as goal

pub returns-in-None-clause-none : goal.returns-in-None-clause-none
returns-in-None-clause-none g c = λ _.
    (first_there top_pair (queues_in (g.B.Books.lent c.args.books.now) c.args.key.now) c.top_of.result c.top_of.ensures.top).0 c.in-None.is

use Rattle.zq_commands.proofs.FirstPairs.{first_home}
use Rattle.zq_commands.specs.FirstPairs.{lent_pair}
use Rattle.zq_posheap.proofs.Lists.{there_is}
use Rattle.zq_commands.proofs.first_of_key.top_at.Goals as goal

pub returns-clause-home : goal.returns-clause-home
returns-clause-home g c =
    let lent = g.B.Books.lent c.args.books.now in
    let book = there_is lent.books c.args.place c.requires.inside in
    first_home lent c.requires.lent c.args.place book.0 book.1 c.args.key.now (lent_pair c.in_ok-pair.pair) (c.in_ok-pair.ensures book.0 book.1)

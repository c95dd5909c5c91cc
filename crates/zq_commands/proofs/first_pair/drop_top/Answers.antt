use Rattle.zq_commands.proofs.FirstPairs.{top_dropped, top_short, top_why}
use Rattle.zq_commands.proofs.OnOk.{same_error}
use Rattle.zq_commands.proofs.first_pair.drop_top.Goals as goal

pub make_at-requires-clause-member : goal.make_at-requires-clause-member
make_at-requires-clause-member g c = top_short (g.B.Books.lent c.args.books.now) c.requires.lent c.args.key.now c.args.member.now c.requires.top

pub returns-in-Ok-clause-dropped : goal.returns-in-Ok-clause-dropped
returns-in-Ok-clause-dropped g c =
    top_dropped (g.B.Books.lent c.args.books.now) c.requires.lent c.args.key.now c.args.member.now c.requires.top
    (c.heading.ensures.rest (g.B.Books.lent c.args.books.now).rule (g.B.Books.lent c.args.books.now).heaps (g.B.Books.lent c.args.books.now).books c.requires.lent.books c.args.key.now)
    c.args.call.now.site c.args.call.now.stamp (g.B.Books.lent c.make_at.new.books) c.in-Ok.ensures.made c.in-Ok.ensures.queues

pub returns-in-Err-clause-worn : goal.returns-in-Err-clause-worn
returns-in-Err-clause-worn g c = λ worn.
    top_why (g.B.Books.lent c.args.books.now) c.requires.lent c.args.key.now c.args.member.now c.requires.top c.args.call.now.site (c.in-Err.ensures.worn (same_error _ _ worn))

use Rattle.zq_session.proofs.PlainBooks.{opening, opening_ruled}
use Rattle.zq_session.proofs.plain.Plain.new.Goals as goal

pub invariant_of-result : goal.invariant_of-result
invariant_of-result c = opening_ruled c.args.heaps c.in_ok-books.books c.in_ok-books.ensures.empty

pub returns : goal.returns
returns c = opening c.args.heaps c.in_ok-books.books c.in_ok-books.ensures.number c.in_ok-books.ensures.empty

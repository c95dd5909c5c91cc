use Rattle.zq_restarts.proofs.NoCrash.{are_after, books_there, left_at}
use Rattle.zq_restarts.proofs.runs.unbroken.Goals as goal

pub returns-clause-run : goal.returns-clause-run
returns-clause-run c limits rule K sites events two are = are_after limits rule K two c.naming.ensures.score sites events are

pub returns-clause-left : goal.returns-clause-left
returns-clause-left c limits rule K events = left_at limits rule K events

pub returns-clause-books : goal.returns-clause-books
returns-clause-books c limits rule K s events = books_there limits rule K s events

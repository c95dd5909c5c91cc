use Rattle.zq_semantics.proofs.SiteBooks.{queues_are, stamps_are}
use Rattle.zq_semantics.proofs.books.holding.Goals as goal

pub returns-clause-stamps : goal.returns-clause-stamps
returns-clause-stamps c rule K st site books are = stamps_are rule K st site books are

pub returns-clause-queues : goal.returns-clause-queues
returns-clause-queues c rule K st site books are = queues_are rule K st site books are

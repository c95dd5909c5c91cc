use Rattle.zq_semantics.proofs.NearBooks.{alone_is, same_plan}
use Rattle.zq_semantics.proofs.books.drawing.Goals as goal

pub returns-clause-plan : goal.returns-clause-plan
returns-clause-plan c key queues others = same_plan key queues others

pub returns-clause-books : goal.returns-clause-books
returns-clause-books c rule K site stamp k st books h old new key world are found = alone_is rule K st site stamp books world are h old found key k new

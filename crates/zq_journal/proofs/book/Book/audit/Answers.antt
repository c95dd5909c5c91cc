use Rattle.zq_journal.specs.Limits.{limits_of}
use Rattle.zq_journal.proofs.BoundedTails.{bounded_undone}
use Rattle.zq_journal.specs.BookView.{records_of}
use Rattle.zq_journal.proofs.book.Book.audit.Goals as goal

pub undo-requires-clause-bounded : goal.undo-requires-clause-bounded
undo-requires-clause-bounded c = λ i.
    rw c.in_ok-shard.ensures
    (bounded_undone i c.self.inside.shard c.self.inside.vector (records_of c.self.inside) (limits_of c.self.inside.limits) c.self.inside.handed c.self.inside.stamp c.self.inside.count c.self.invariant.standing)

use Rattle.zq_journal.specs.Books.{LAST_STAMP}
use Rattle.zq_world.proofs.holder.make_in.Goals as goal

pub make-requires-clause-bounded : goal.make-requires-clause-bounded
unfolding LAST_STAMP
make-requires-clause-bounded c = c.requires.bounded

use Rattle.std.proofs.Common.{arith, inl, refl, subst, ◌≡◌, ◌≤◌}
use Rattle.zq_model.specs.Books.{Book}
use Rattle.zq_journal.specs.Books.{LAST_STAMP}
use Rattle.zq_shard.specs.Shard.{IsHeapImage}
use Rattle.zq_spread.proofs.Alone.{dated, lends}
use Rattle.zq_spread.proofs.Commanded.{answered_by, home_alone}
use Rattle.zq_spread.proofs.locked_heap.LockedHeap.answer.Goals as goal

pub run-requires-clause-lent : goal.run-requires-clause-lent
run-requires-clause-lent c = lends c.args.self.now.book (subst IsHeapImage c.shard.ensures.same c.vector-vector.ensures.kept).bounded

pub run-requires-clause-dated : goal.run-requires-clause-dated
unfolding LAST_STAMP
run-requires-clause-dated c = dated c.args.stamp c.args.self.now.book c.requires.bounded c.requires.stamp

pub run-requires-clause-homes : goal.run-requires-clause-homes
run-requires-clause-homes c = home_alone c.args.command.now c.args.self.now.book.heap c.args.self.now.book.heaps c.args.self.now.book refl refl c.requires.one

pub returns-clause-total : goal.returns-clause-total
returns-clause-total c = c.run.ensures.keeps.0

pub returns-clause-worked : goal.returns-clause-worked
returns-clause-worked c = λ a begun.
    let old : Book = c.args.self.now.book in
    let new : Book = c.run.new.books.book in
    let keeps = c.run.ensures.keeps in
    let high : new.stamp ≤ c.args.stamp = c.run.ensures.dated.1 new (inl refl) in
    let low : old.stamp ≤ new.stamp = keeps.1.stamp in
    let is : old.stamp ≡ c.args.stamp = begun.stamp_is in
    let stamped : new.stamp ≡ c.args.stamp = omega (arith, high, low, is) in
    answered_by old.rule c.args.site c.args.stamp c.args.command.now _ old new a c.run.ensures.ran keeps.1 stamped begun

use Rattle.std.proofs.Common.{ap, arith, ◌≡◌, ◌≤◌}
use Rattle.zq_journal.specs.BookView.{book_of}
use Rattle.zq_journal.proofs.book.Book.touch.Goals as goal

pub invariant_of-self : goal.invariant_of-self
invariant_of-self c =
    let is : c.self.inside.stamp ≡ c.args.self.now.stamp = ap (λ b. b.stamp) c.self.view_is in
    let rises : c.self.inside.stamp ≤ c.args.stamp = omega (arith, is, c.requires.stamp) in
    record {
      standing = record {
        book = c.keeping.ensures.touch (book_of c.self.inside) c.args.stamp rises c.self.invariant.standing.book;
        kept = c.self.invariant.standing.kept;
        bounded = c.self.invariant.standing.bounded;
        each = c.self.invariant.standing.each;
        last_stamp = c.requires.bounded;
        last_count = c.self.invariant.standing.last_count;
      };
      bytes = c.self.invariant.bytes;
    }

use Rattle.std.proofs.Common.{arith}
use Rattle.zq_journal.specs.Books.{LAST_STAMP}
use Rattle.zq_commands.proofs.site_books.SiteBooks.next_stamp.Goals as goal

pub returns-then-stamp-lt-LAST_COUNT-clause-next : goal.returns-then-stamp-lt-LAST_COUNT-clause-next
returns-then-stamp-lt-LAST_COUNT-clause-next c =
    let its = c.stamp-stamp.ensures in
    record {
      dated = (omega (arith, c.if-stamp-lt-LAST_COUNT.true), λ book here. let low = its.dated.1 book here in omega (arith, low));
      above = λ book here. let low = its.dated.1 book here in omega (arith, low);
      after = (its.greatest.0, its.greatest.1, let same = its.greatest.2 in omega (arith, same));
    }

pub returns-else-stamp-lt-LAST_COUNT-clause-worn : goal.returns-else-stamp-lt-LAST_COUNT-clause-worn
unfolding LAST_STAMP
returns-else-stamp-lt-LAST_COUNT-clause-worn c = λ none.
    let its = c.stamp-stamp.ensures in
    (its.greatest.0, its.greatest.1, let same = its.greatest.2 in let most = its.dated.0 in omega (arith, same, most, c.if-stamp-lt-LAST_COUNT.false))

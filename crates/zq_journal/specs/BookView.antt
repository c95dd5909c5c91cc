-- The fields of a book, as a book.

use Rattle.std.specs.Prelude.{List, ◌≡◌}
use Rattle.zq_model.specs.Books.{Book}
use Rattle.zq_journal.specs.Books.{book_over}
use Rattle.zq_journal.specs.Limits.{limits_of}
use Rattle.zq_journal.specs.Records.{Record, bytes_kept_in, leaves_of, records_in}
use Rattle.zq_journal.specs.Standing.{IsStanding}
use Rattle.zq_journal.specs.declared.book.Book.TheInside.{Inside}

-- its records, with their whole operations
abbrev pub records_of : Inside → List Record
records_of b = records_in b.shard b.vector b.tail.items

abbrev pub book_of : Inside → Book
book_of b = book_over b.shard b.vector (leaves_of (records_of b))
    (limits_of b.limits) b.handed b.stamp b.count

-- its records stand, and it has the bytes of their keys and members
pub record IsBookKept (b : Inside) : Type 0 where
  pub standing : IsStanding b.shard b.vector (records_of b)
      (limits_of b.limits) b.handed b.stamp b.count
  pub bytes : b.bytes ≡ bytes_kept_in b.tail.items

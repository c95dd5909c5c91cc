-- What is lent of a queue.

use Rattle.std.specs.Borrow.{Bor}
use Rattle.std.specs.Prelude.{List, ℕ}
use Rattle.zq_model.specs.Image.{Entry}
pub use Rattle.zq_posheap.specs.Listing.{lent_pair}

-- a member with its entry
abbrev pub lent_entry : Bor (List ℕ) × Bor Entry → List ℕ × Entry
lent_entry row = (row.0.now, row.1.now)

-- the same, the entry first
abbrev pub lent_turned : Bor (List ℕ) × Bor Entry → Entry × List ℕ
lent_turned row = (row.1.now, row.0.now)

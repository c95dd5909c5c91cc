-- Additions with their sites, and the entry that they stand for.

use Rattle.std.specs.Prelude.{List, pos, ℕ, ℤ}
use Rattle.zq_model.specs.Entry.{Addition}
use Rattle.zq_model.specs.Image.{Entry}
use Rattle.zq_model.specs.Rows.{OfSite}
use Rattle.zq_model.specs.Sets.{by_site}
use Rattle.zq_entry.specs.Sparse.{sparse_from}
use Rattle.zq_model.specs.Sparse.{found}
use Rattle.zq_entry.specs.Sums.{dense_sums}

-- what a Put makes: no Bump has seen it
abbrev pub addition_of_put : ℕ → ℤ → Addition
addition_of_put n score = record { n = n; score = score; sums = by_site (λ _. pos 0) }

-- an addition of the site s, with the sums that are not 0
abbrev pub placed_from : ℕ → ℕ → ℤ → List (ℕ × ℤ) → OfSite
placed_from s n score sums = (s, record { n = n; score = score; sums = dense_sums sums })

-- a place for each site
abbrev pub dense_entry : List OfSite → Entry
dense_entry items = by_site (λ s. found s items)

-- the additions that stand, by rising site
abbrev pub placed_of : Entry → List OfSite
placed_of entry = sparse_from 0 entry

-- The sums that an addition lends, as a list.

use Rattle.std.specs.Prelude.{List, ℕ, ℤ}
use Rattle.zq_entry.specs.declared.lent_sums.Source.{Source}
use Rattle.zq_entry.specs.declared.lent_sums.Source.TheVariants.{Lent, Own}

abbrev pub source_sums : Source → List (ℕ × ℤ)
source_sums (Lent items) = items.now
source_sums (Own items) = items

-- The sums that an addition keeps, as a list.

use Rattle.std.specs.Prelude.{List, [], ℕ, ℤ}
use Rattle.zq_entry.specs.declared.sums.Kept.{Kept}
use Rattle.zq_entry.specs.declared.sums.Kept.TheVariants.{Many, Nothing, One}

abbrev pub kept_sums : Kept → List (ℕ × ℤ)
kept_sums Nothing = []
kept_sums (One items) = items
kept_sums (Many items) = items.items

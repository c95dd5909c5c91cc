-- The additions that a member's value holds, as a list.

use Rattle.std.specs.Int.NonZero.{non_zero_i64_get}
use Rattle.std.specs.Prelude.{List, [], ◌∷◌}
use Rattle.zq_entry.specs.Placed.{addition_of_put, placed_from}
use Rattle.zq_model.specs.Rows.{OfSite}
use Rattle.zq_entry.specs.declared.storage.Storage.{Storage}
use Rattle.zq_entry.specs.declared.storage.Storage.TheVariants.{Many, Nothing, One, Summed}

abbrev pub listed : Storage → List OfSite
listed Nothing = []
listed (One dot score) = (dot.site, addition_of_put dot.n score) ∷ []
listed (Summed site by n score sum) = placed_from site n score ((by, non_zero_i64_get sum) ∷ [])
    ∷ []
listed (Many list) = list.items

-- whether they lie in memory of their own
abbrev pub IsMany : Storage → Type 0
IsMany Nothing = ⊥
IsMany (One dot score) = ⊥
IsMany (Summed site by n score sum) = ⊥
IsMany (Many list) = Unit {0}

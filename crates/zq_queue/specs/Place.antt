-- Where a member is among those of a key.

use Rattle.std.specs.Prelude.{Bool, false, true, ℕ}
use Rattle.zq_queue.specs.declared.place.Place.{Place}
use Rattle.zq_queue.specs.declared.place.Place.TheVariants.{Few, Many}

abbrev pub is_many : Place → Bool
is_many (Few index) = false
is_many (Many place) = true

abbrev pub index_of : Place → ℕ
index_of (Few index) = index
index_of (Many place) = place.index

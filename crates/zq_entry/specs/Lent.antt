-- The addition that an entry lends.

use Rattle.zq_entry.specs.Placed.{placed_from}
use Rattle.zq_model.specs.Rows.{OfSite}
use Rattle.zq_entry.specs.declared.addition_ref.AdditionRef.{AdditionRef}

abbrev pub lent : AdditionRef → OfSite
lent a = placed_from a.dot.site a.dot.n a.score a.sums

-- The rule of a counting table.
use Rattle.std.specs.Prelude.{◌≡◌, List, sum_by}
use Rattle.atomic_table.specs.Table.{State}
use Rattle.zq_tally.specs.declared.view.View.{View}
use Rattle.zq_tally.specs.Limits.{ALL_PARTS}
use Rattle.zq_tally.specs.Views.{parts, steps, totals, total}

-- The parts of all views are those of the table. One view keeps a total, and it is the sum of the
-- steps of all views.
pub record AreTallied (views : List View) : Type 0 where
  pub parts : sum_by parts views ≡ ALL_PARTS
  pub one : sum_by totals views ≡ 1
  pub total : sum_by total views ≡ sum_by steps views

abbrev pub IsTallied : {S : Type 0} → State S View → Type 0
IsTallied s = AreTallied s.views

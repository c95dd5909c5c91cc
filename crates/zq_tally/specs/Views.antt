-- Views: what a seat knows of its table.
use Rattle.std.specs.Prelude.{ℕ, ◌+◌, Option, Some, None, List, [], length, sum}
use Rattle.zq_tally.specs.declared.view.View.{View}
use Rattle.zq_tally.specs.Limits.{ALL_PARTS}

abbrev pub view : List ℕ → ℕ → Option ℕ → View
view steps kept total = record { steps = steps; kept = kept; total = total }

-- of a seat that was joined into another, or that gave away all it had
abbrev pub nothing : View
nothing = view [] 0 None

-- of the first seat: all parts, and the total of no step
abbrev pub untouched : View
untouched = view [] ALL_PARTS (Some 0)

-- its parts: one for each pass, and those that are kept
abbrev pub parts : View → ℕ
parts v = length v.steps + v.kept

-- the steps of its passes
abbrev pub steps : View → ℕ
steps v = sum v.steps

abbrev pub one_of : Option ℕ → ℕ
one_of None = 0
one_of (Some total) = 1

abbrev pub value_of : Option ℕ → ℕ
value_of None = 0
value_of (Some total) = total

-- 1 where it keeps a total
abbrev pub totals : View → ℕ
totals v = one_of v.total

-- its total, 0 where it keeps none
abbrev pub total : View → ℕ
total v = value_of v.total

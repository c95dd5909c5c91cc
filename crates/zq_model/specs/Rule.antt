-- Which of two values is preferred. The rule is named here alone.

use Rattle.std.specs.Int.{int_max, int_min}
use Rattle.std.specs.Prelude.{ℤ, ◌≤ℤ◌}

-- which of the values of the live Puts is the score
pub data Rule : Type 0 where
  Greatest : Rule
  Least : Rule

abbrev pub preferred : Rule → ℤ → ℤ → ℤ
preferred Greatest x y = int_max x y
preferred Least x y = int_min x y

-- x is no worse than y
abbrev pub IsNoWorse : Rule → ℤ → ℤ → Type 0
IsNoWorse Greatest x y = y ≤ℤ x
IsNoWorse Least x y = x ≤ℤ y

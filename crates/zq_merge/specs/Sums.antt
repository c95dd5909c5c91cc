-- Sums as they are read.

use Rattle.std.specs.Ordering.{int_eq}
use Rattle.std.specs.Prelude.{List, [], if◌then◌else◌, pos, ℕ, ℤ, ◌++◌, ◌∷◌}

-- the sums with the next site's, which is left out where it is 0
abbrev pub with_sum : ℕ → ℤ → List (ℕ × ℤ) → List (ℕ × ℤ)
with_sum s z items = if int_eq z (pos 0) then items else items ++ (s, z) ∷ []

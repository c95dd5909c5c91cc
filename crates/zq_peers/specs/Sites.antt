-- The sites among which a site is one.

use Rattle.std.specs.Prelude.{List, [], cond, ℕ, suc, zero, ◌++◌, ◌∷◌, ◌==◌}

-- those below a number, but for this one, in rising order
abbrev pub others_below : ℕ → ℕ → List ℕ
others_below number zero = []
others_below number (suc n) = others_below number n ++ cond (n == number) [] (n ∷ [])

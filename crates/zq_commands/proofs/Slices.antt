-- One more of a part of a list.

use Rattle.std.proofs.Common.{List, Some, [], ap, arith, drop, refl, slice_get, suc, take, zero, ℕ, ◌++◌, ◌+◌, ◌-◌, ◌∙◌, ◌∷◌, ◌≡◌, ◌≤◌}
use Rattle.std.specs.Prelude.{slice_range}
use Rattle.zq_commands.proofs.InTurn.{take_next}

get_rest : {X : Type 0} (xs : List X) (from i : ℕ) → from ≤ i → slice_get (drop from xs) (i - from) ≡ slice_get xs i
get_rest xs zero i low = let same : i - 0 ≡ i = omega arith in ap (slice_get xs) same
get_rest [] (suc from) zero low = absurd (omega (arith, low))
get_rest [] (suc from) (suc i) low = refl
get_rest (x ∷ xs) (suc from) zero low = absurd (omega (arith, low))
get_rest (x ∷ xs) (suc from) (suc i) low =
    let same : suc i - suc from ≡ i - from = omega arith in ap (slice_get (drop from xs)) same ∙ get_rest xs from i (omega (arith, low))

-- one more of a part of a list
pub range_next : {X : Type 0} (xs : List X) (from i : ℕ) (x : X) → from ≤ i → slice_get xs i ≡ Some x → slice_range xs from (i + 1) ≡ slice_range xs from i ++ x ∷ []
range_next xs from i x low at =
    let wide : i + 1 - from ≡ (i - from) + 1 = omega (arith, low) in
    ap (λ n. take n (drop from xs)) wide ∙ take_next (drop from xs) (i - from) x (get_rest xs from i low ∙ at)

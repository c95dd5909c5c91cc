-- Two lists of pairs put together in order, or in the order turned round.

use Rattle.std.specs.Prelude.{Bool, None, Option, Some, [], false, if◌then◌else◌, suc, true, zero, ℕ, ◌∷◌}
use Rattle.zq_model.specs.Meaning.{Scored}
use Rattle.zq_model.specs.Moves.{Queue}
use Rattle.zq_model.specs.Readings.{is_before}

-- a pair goes before another, where they are turned round after it
abbrev pub goes_before : Bool → Scored → Scored → Bool
goes_before is_turned p q = if is_turned then is_before q p else is_before p q

-- of the next pairs of two lists, where there are some, the first list's comes next
abbrev pub is_next : Bool → Option Scored → Option Scored → Bool
is_next is_turned None q = false
is_next is_turned (Some p) None = true
is_next is_turned (Some p) (Some q) = goes_before is_turned p q

-- the first so many pairs of both lists together
abbrev pub woven : Bool → ℕ → Queue → Queue → Queue
woven is_turned zero first second = []
woven is_turned (suc n) [] [] = []
woven is_turned (suc n) [] (q ∷ second) = q ∷ woven is_turned n [] second
woven is_turned (suc n) (p ∷ first) [] = p ∷ woven is_turned n first []
woven is_turned (suc n) (p ∷ first) (q ∷ second) =
    if goes_before is_turned p q then p ∷ woven is_turned n first (q ∷ second) else q
    ∷ woven is_turned n (p ∷ first) second

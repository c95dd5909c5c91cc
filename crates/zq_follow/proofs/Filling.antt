-- A list that is written place by place.

use Rattle.std.proofs.Common.{List, get_or, length, set, subst, sym, ℕ, ◌+◌, ◌<◌, ◌≡◌}
use Rattle.std.proofs.lemmas.List.Edits.{fill_by_more}

-- one place more
pub filled_more : {X : Type 0} (f : ℕ → X) (xs : List X) (i : ℕ) (x d : X) → i < length xs →
    ((t : ℕ) → t < i → get_or xs t d ≡ f t) → x ≡ f i → (t : ℕ) → t < i + 1 →
    get_or (set xs i x) t d ≡ f t
filled_more {X} f xs i x d within done is =
    subst (λ (y : X). (t : ℕ) → t < i + 1 → get_or (set xs i y) t d ≡ f t) (sym is) (fill_by_more f xs i d within done)

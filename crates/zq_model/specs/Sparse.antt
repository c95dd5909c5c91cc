-- Lists of values by rising site, which have those sites alone that have a value.

use Rattle.std.specs.Prelude.{List, None, Option, Some, [], if◌then◌else◌, ℕ, ◌+◌, ◌<◌, ◌==◌, ◌∷◌, ◌≤◌}

-- the value of a site
abbrev pub found : {X : Type 0} → ℕ → List (ℕ × X) → Option X
found s [] = None
found s (p ∷ items) = if p.0 == s then Some p.1 else found s items

-- the sites rise, from `low` on and up to below `high`
abbrev pub AreBySite : {X : Type 0} → ℕ → ℕ → List (ℕ × X) → Type 0
AreBySite low high [] = Unit {0}
AreBySite low high (p ∷ items) = (low ≤ p.0) × (p.0 < high) × AreBySite (p.0 + 1) high items

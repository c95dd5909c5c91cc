-- Lists of values by rising site, and the lists with a place for each site that they stand for.

use Rattle.std.specs.List.{position_or_len}
use Rattle.std.specs.Prelude.{List, None, Option, Some, [], if◌then◌else◌, ℕ, ◌+◌, ◌==◌, nat_le, nat_lt, ◌∷◌}

-- x is the value of the site s, in its place
abbrev pub placed : {X : Type 0} → ℕ → X → List (ℕ × X) → List (ℕ × X)
placed s x [] = (s, x) ∷ []
placed s x (p ∷ items) = if nat_lt p.0 s then p
    ∷ placed s x items else (if p.0 == s then (s, x) ∷ items else (s, x) ∷ p ∷ items)

-- where the value of a site has its place: the place of the first of this site or a later one, or
-- the end
abbrev pub place_in : {X : Type 0} → ℕ → List (ℕ × X) → ℕ
place_in s items = position_or_len (λ p. nat_le s p.0) items

-- the values that stand, each with its site, of sites from s on
abbrev pub sparse_from : {X : Type 0} → ℕ → List (Option X) → List (ℕ × X)
sparse_from s [] = []
sparse_from s (None ∷ places) = sparse_from (s + 1) places
sparse_from s (Some x ∷ places) = (s, x) ∷ sparse_from (s + 1) places

-- the site of the first value
abbrev pub head_of : {X : Type 0} → List (ℕ × X) → Option ℕ
head_of [] = None
head_of (p ∷ items) = Some p.0

-- the lower of two sites, where there are two
abbrev pub lower : Option ℕ → Option ℕ → Option ℕ
lower None y = y
lower (Some a) None = Some a
lower (Some a) (Some b) = Some (if nat_lt b a then b else a)

-- the first value, where it is the site s's
abbrev pub first_at : {X : Type 0} → ℕ → List (ℕ × X) → Option X
first_at s [] = None
first_at s (p ∷ items) = if p.0 == s then Some p.1 else None

-- what is left after it
abbrev pub rest_at : {X : Type 0} → ℕ → List (ℕ × X) → List (ℕ × X)
rest_at s [] = []
rest_at s (p ∷ items) = if p.0 == s then items else p ∷ items

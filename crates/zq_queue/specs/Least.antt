-- The first of a list's pairs.

use Rattle.std.specs.Ordering.{is_lt}
use Rattle.std.specs.Prelude.{Bool, Contains, List, None, Option, Some, [], false, true, ◌≡◌}
use Rattle.zq_model.specs.Meaning.{Scored, scored_cmp}

-- there is none, or it is one of them that none of them goes before
abbrev pub IsLeastOf : List Scored → Option Scored → Type 0
IsLeastOf pairs None = pairs ≡ []
IsLeastOf pairs (Some least) = Contains pairs least × ((pair : Scored) → Contains pairs pair →
    is_lt (scored_cmp pair least) ≡ false)

-- whether a pair goes before another, where there is another
abbrev pub is_first : Scored → Option Scored → Bool
is_first pair None = true
is_first pair (Some other) = is_lt (scored_cmp pair other)

-- The score of a member, from its entry.

use Rattle.std.specs.Prelude.{List, None, Option, Some, [], pos, ℤ, ◌+ℤ◌, ◌∷◌}
use Rattle.zq_model.specs.Entry.{Addition}
use Rattle.zq_model.specs.Image.{Entry}
use Rattle.zq_model.specs.Rule.{Rule, preferred}

abbrev pub total : List ℤ → ℤ
total [] = pos 0
total (x ∷ xs) = x +ℤ total xs

-- the score of the Put and the increments of the Bumps that have seen it
abbrev pub value_of : Addition → ℤ
value_of a = a.score +ℤ total a.sums

abbrev pub preferred_if : Rule → ℤ → Option ℤ → ℤ
preferred_if rule x None = x
preferred_if rule x (Some y) = preferred rule x y

-- the preferred of the values, and none where there is no addition
abbrev pub score_of : Rule → Entry → Option ℤ
score_of rule [] = None
score_of rule (None ∷ entry) = score_of rule entry
score_of rule (Some a ∷ entry) = Some (preferred_if rule (value_of a) (score_of rule entry))

-- The queue of a key, from images: its members with their scores, by score and then by their bytes.

use Rattle.std.specs.FinMap.{FinMap, keys}
use Rattle.std.specs.Cmp.Lexicographic.{pointwise}
use Rattle.std.specs.Prelude.{List, None, Option, Some, filter_map, flat_map, if◌then◌else◌, nat_eq, option_map, ℕ}
use Rattle.zq_model.specs.Image.{Members, Place, entry_at, map_on}
use Rattle.zq_model.specs.Meaning.{Scored, scored_cmp}
use Rattle.zq_model.specs.Rule.{Rule}
use Rattle.zq_model.specs.Score.{score_of}

abbrev pub scored_at : Rule → List ℕ → Members → Place → Option Scored
scored_at rule key members q =
    if pointwise nat_eq q.0 key then option_map (λ x. (x, q.1))
    (score_of rule (entry_at members q)) else None

abbrev pub scored_of : Rule → List ℕ → Members → List Scored
scored_of rule key members = filter_map (scored_at rule key members) (keys members)

-- the queue of a key over some heaps
abbrev pub queue_set : Rule → List ℕ → List Members → FinMap scored_cmp (Unit {0})
queue_set rule key heaps = map_on scored_cmp (λ _. Some tt) (flat_map (scored_of rule key) heaps)

abbrev pub queue_of : Rule → List ℕ → List Members → List Scored
queue_of rule key heaps = keys (queue_set rule key heaps)

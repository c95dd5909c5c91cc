-- The queue of a key's entries: its members with their scores, by score and then by their bytes.

use Rattle.std.specs.Cmp.Lexicographic.{pointwise}
use Rattle.std.specs.FinMap.{FinMap, entries, keys}
use Rattle.std.specs.Prelude.{Bool, List, Option, Some, drop, filter_map, nat_eq, option_map, take, ℕ, ◌-◌}
use Rattle.zq_model.specs.Image.{Entry, map_on}
use Rattle.zq_model.specs.Meaning.{Scored, scored_cmp}
use Rattle.zq_model.specs.Rule.{Rule}
use Rattle.zq_model.specs.Score.{score_of}
use Rattle.zq_queue.specs.Entries.{Entries}

-- a member with its score
abbrev pub scored_in : Rule → List ℕ × Entry → Option Scored
scored_in rule e = option_map (λ x. (x, e.0)) (score_of rule e.1)

-- the members with their scores
abbrev pub listed_set : Rule → Entries → FinMap scored_cmp (Unit {0})
listed_set rule held = map_on scored_cmp (λ _. Some tt) (filter_map (scored_in rule) (entries held))

-- the same in order
abbrev pub listed : Rule → Entries → List Scored
listed rule held = keys (listed_set rule held)

-- whether the pair is the member's
abbrev pub is_of_member : List ℕ → Scored → Bool
is_of_member member pair = pointwise nat_eq pair.1 member

-- what stands from one place up to another
abbrev pub part : {X : Type 0} → ℕ → ℕ → List X → List X
part from to xs = take (to - from) (drop from xs)

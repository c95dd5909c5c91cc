-- What a drill writes.

use Rattle.std.specs.Fmt.{signed_decimal}
use Rattle.std.specs.List.Sorted.{IsSorted}
use Rattle.std.specs.Prelude.{All, Bool, IsTrue, List, [], codes, decimal, flat_map, if◌then◌else◌, length, ℕ, ◌++◌, ◌+◌, ◌∷◌, ◌↔◌, ◌≡◌}
use Rattle.zq_drill.specs.Limits.{site_count}
use Rattle.zq_drill.specs.Listed.{AreOfSites}
use Rattle.zq_model.specs.Meaning.{Scored, scored_cmp}

-- the line of a member: its score, a space, its bytes
abbrev pub line_of : Scored → List ℕ
line_of x = signed_decimal x.0 ++ 32 ∷ x.1 ++ 10 ∷ []

-- the line of a site: its number, and how many members it has
abbrev pub size_line : ℕ → ℕ → List ℕ
size_line number size = codes "site " ++ decimal number ++ codes " size " ++ decimal size ++ 10 ∷ []

-- the lines of the sites, of which the first has this number
abbrev pub sites_text : ℕ → List (List Scored) → List ℕ
sites_text number [] = []
sites_text number (list ∷ lists) = size_line number (length list) ++ flat_map line_of list
    ++ sites_text (number + 1) lists

-- and the last line
abbrev pub report : List (List Scored) → Bool → List ℕ
report lists equal = sites_text 0 lists ++ (if equal then codes "equal\n" else codes "differ\n")

-- each list is the same as the one after it
abbrev pub AreAlike : List (List Scored) → Type 0
AreAlike [] = Unit {0}
AreAlike (list ∷ []) = Unit {0}
AreAlike (one ∷ (other ∷ lists)) = (one ≡ other) × AreAlike (other ∷ lists)

-- the lists of three sites that met, each by score and then by bytes, and whether all are the same
pub record IsOutcome (lists : List (List Scored)) (equal : Bool) : Type 0 where
  pub number : length lists ≡ site_count
  pub sorted : All (IsSorted scored_cmp) lists
  pub equal_is : IsTrue equal ↔ AreAlike lists
  pub sites : AreOfSites lists

-- Few members in a list.

use Rattle.std.specs.FinMap.{from_entries}
use Rattle.std.specs.Prelude.{AllPairs, List, length, map, pos, unwrap_or, ℕ, ◌≢◌, ◌≤◌}
use Rattle.zq_model.specs.Image.{Entry}
use Rattle.zq_model.specs.Meaning.{Scored}
use Rattle.zq_model.specs.Rule.{Rule}
use Rattle.zq_model.specs.Score.{score_of}
use Rattle.zq_queue.specs.Entries.{Entries, NoneIsBare}
use Rattle.zq_queue.specs.declared.few.Member.{Member}

-- a member's entry, and the member
abbrev pub row_of : Member → Entry × List ℕ
row_of member = (member.entry, member.name)

abbrev pub rows_of : List Member → List (Entry × List ℕ)
rows_of list = map row_of list

-- the members by their places
abbrev pub names_in : List Member → List (List ℕ)
names_in list = map (λ member. member.name) list

-- the entries of a list's members
abbrev pub entries_by : List Member → Entries
entries_by list = from_entries (map (λ row. (row.1, row.0)) (rows_of list))

-- a member's score, and the member
abbrev pub scored_by : Rule → Member → Scored
scored_by rule member = (unwrap_or (score_of rule member.entry) (pos 0), member.name)

abbrev pub pairs_by : Rule → List Member → List Scored
pairs_by rule list = map (scored_by rule) list

-- no two are of one name
abbrev pub AreApart : List Member → Type 0
AreApart list = AllPairs (λ x y. x.1 ≢ y.1) (rows_of list)

-- no two are of one name, none is without additions, and there are few
pub record AreFew (list : List Member) : Type 0 where
  pub apart : AreApart list
  pub stand : NoneIsBare (entries_by list)
  pub few : length list ≤ 32

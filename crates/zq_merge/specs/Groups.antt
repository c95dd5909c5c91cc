-- Rows of one key that stand together, and rows that can be written.

use Rattle.std.specs.Cmp.Lexicographic.{pointwise}
use Rattle.std.specs.Prelude.{List, [], if◌then◌else◌, length, map, nat_eq, ℕ, ◌+◌, ◌∷◌, ◌≤◌}
use Rattle.zq_merge.specs.Keys.{KeyRows, member_of}
use Rattle.zq_model.specs.Operation.{LONGEST}
use Rattle.zq_model.specs.Rows.{Row}
use Rattle.zq_model.specs.Sets.{IsIn, SITES}

-- the number of rows at the front that are of the key
abbrev pub group_len : List ℕ → List Row → ℕ
group_len key [] = 0
group_len key (row ∷ rows) = if pointwise nat_eq row.key key then 1 + group_len key rows else 0

-- the rows of a key as a key with its members
abbrev pub group_key : List Row → KeyRows
group_key [] = record { key = []; members = [] }
group_key (row ∷ rows) = record { key = row.key; members = map member_of (row ∷ rows) }

-- its key, its member and its number of additions have a spelling
pub record IsWritable (row : Row) : Type 0 where
  pub key : length row.key ≤ LONGEST
  pub member : length row.member ≤ LONGEST
  pub additions : length row.additions ≤ SITES

abbrev pub AreWritable : List Row → Type 0
AreWritable rows = (row : Row) → IsIn row rows → IsWritable row

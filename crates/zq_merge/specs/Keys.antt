-- The rows of an image, key by key.

use Rattle.std.specs.Cmp.Lexicographic.{pointwise}
use Rattle.std.specs.Prelude.{List, [], flat_map, if◌then◌else◌, map, nat_eq, ℕ, ◌∷◌}
use Rattle.zq_model.specs.Rows.{OfSite, Row}

-- a member with its additions by rising site
pub record MemberRow : Type 0 where
  pub member : List ℕ
  pub additions : List OfSite

-- a key with its members
pub record KeyRows : Type 0 where
  pub key : List ℕ
  pub members : List MemberRow

-- the row of a member of the key
abbrev pub row_in : List ℕ → MemberRow → Row
row_in key m = record { key = key; member = m.member; additions = m.additions }

-- the rows of the key's members
abbrev pub key_rows : KeyRows → List Row
key_rows k = map (row_in k.key) k.members

-- the rows of all keys
abbrev pub rows_in : List KeyRows → List Row
rows_in keys = flat_map key_rows keys

abbrev pub member_of : Row → MemberRow
member_of row = record { member = row.member; additions = row.additions }

-- the keys with one row more before them: it is the first key's where that is its own
abbrev pub with_row : Row → List KeyRows → List KeyRows
with_row row [] = record { key = row.key; members = member_of row ∷ [] } ∷ []
with_row row (k ∷ keys) =
    if pointwise nat_eq row.key k.key then
    record { key = k.key; members = member_of row ∷ k.members } ∷ keys
    else record { key = row.key; members = member_of row ∷ [] } ∷ (k ∷ keys)

-- rows, key by key
abbrev pub by_key : List Row → List KeyRows
by_key [] = []
by_key (row ∷ rows) = with_row row (by_key rows)

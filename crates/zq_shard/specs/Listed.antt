-- Rows that a shard lends, and rows that it is made of.

use Rattle.std.specs.Borrow.{Bor}
use Rattle.std.specs.FinMap.{entries}
use Rattle.std.specs.Prelude.{List, map, ℕ}
use Rattle.zq_model.specs.Image.{Entry, Place}
use Rattle.zq_model.specs.Rows.{Row, row_of}
use Rattle.zq_queue.specs.Entries.{Entries}
use Rattle.zq_shard.specs.declared.row.Row.{Row as Owned}
use Rattle.zq_shard.specs.declared.row.RowRef.{RowRef}

-- the row that is lent
abbrev pub lent_row : RowRef → Row
lent_row row = row_of ((row.key.now, row.member.now), row.entry.now)

-- its key and its member
abbrev pub lent_place : RowRef → Place
lent_place row = (row.key.now, row.member.now)

-- the row that is given
abbrev pub given_row : Owned → Row
given_row row = record { key = row.key.items; member = row.member.items; additions = row.additions.items }

-- the key that is lent
abbrev pub lent_key : Bor (List ℕ) → List ℕ
lent_key key = key.now

-- the members of a key with their entries, by their places
abbrev pub block : List ℕ → Entries → List (Place × Entry)
block key held = map (λ e. ((key, e.0), e.1)) (entries held)

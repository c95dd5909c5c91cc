-- The members of one key with their entries.

use Rattle.std.specs.Cmp.Lexicographic.{slice_cmp}
use Rattle.std.specs.FinMap.{FinMap, get, insert, keys, remove}
use Rattle.std.specs.Ordering.{nat_cmp}
use Rattle.std.specs.Prelude.{List, Option, Some, false, if◌then◌else◌, unwrap_or, ℕ, ◌++◌, ◌≡◌}
use Rattle.std.specs.declared.cmp.Ordering.{Ordering}
use Rattle.zq_model.specs.Image.{Entry, is_bare, join_entry, map_on, no_additions, unless_bare}

abbrev pub bytes_cmp : List ℕ → List ℕ → Ordering
bytes_cmp = slice_cmp nat_cmp

-- the entries of a key's members, by the members' bytes
abbrev pub Entries : Type 0
Entries = FinMap bytes_cmp Entry

-- the entry of a member, without additions where it does not stand
abbrev pub entry_in : Entries → List ℕ → Entry
entry_in entries member = unwrap_or (get entries member) no_additions

-- the entries with this one at the member. A bare entry does not stand
abbrev pub set_entry : Entries → List ℕ → Entry → Entries
set_entry entries member entry =
    if is_bare entry then remove entries member else insert entries member entry

-- the join of what two sides of the vectors u and v have of a member
abbrev pub entry_joined : List ℕ → List ℕ → Entries → Entries → List ℕ → Option Entry
entry_joined u v a b member = unless_bare (join_entry u v (entry_in a member) (entry_in b member))

-- the same of all members
abbrev pub joined_entries : List ℕ → List ℕ → Entries → Entries → Entries
joined_entries u v a b = map_on bytes_cmp (entry_joined u v a b) (keys a ++ keys b)

-- no member stands without additions
abbrev pub NoneIsBare : Entries → Type 0
NoneIsBare entries = (member : List ℕ) (entry : Entry) → get entries member ≡ Some entry →
    is_bare entry ≡ false

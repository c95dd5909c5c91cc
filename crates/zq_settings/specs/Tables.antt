-- Tables of TOML, by their keys.
use Rattle.std.specs.Prelude.{ℕ, List, [], ◌∷◌, not, Option}
use Rattle.std.specs.List.{find}
use Rattle.toml.specs.Data.{Data, Members, no_members, member, get_member}
use Rattle.zq_settings.specs.Keys.{name_of, is_known}
use Rattle.zq_settings.specs.declared.form.Form.{Form}
use Rattle.zq_settings.specs.declared.key.Key.{Key}

-- the value of a key, if the table has it
abbrev pub value_at : Key → Members → Option Data
value_at key table = get_member (name_of key) table

-- the names of a table's keys, which rise by their bytes
abbrev pub names_in : Members → List (List ℕ)
names_in no_members = []
names_in (member name value members) = name ∷ names_in members

-- the least name that is no key of such a table
abbrev pub first_unknown : Form → Members → Option (List ℕ)
first_unknown form table = find (λ name. not (is_known form name)) (names_in table)

-- What is seen of either form of the members of a key.

use Rattle.std.specs.Prelude.{Bool, List, false, true, ℕ}
use Rattle.zq_model.specs.Rule.{Rule}
use Rattle.zq_queue.specs.Entries.{Entries}
use Rattle.zq_queue.specs.Few.{AreFew, entries_by, names_in}
use Rattle.zq_queue.specs.Queued.{AreScored, entries_of}
use Rattle.zq_queue.specs.declared.members.Form.{Form}
use Rattle.zq_queue.specs.declared.members.Form.TheVariants.{Few, Many}

-- the entries of the members
abbrev pub entries_in : Form → Entries
entries_in (Few list) = entries_by list.items
entries_in (Many many) = entries_of many.value.held

-- the members by their places
abbrev pub places_in : Form → List (List ℕ)
places_in (Few list) = names_in list.items
places_in (Many many) = many.value.places

abbrev pub is_many_in : Form → Bool
is_many_in (Few list) = false
is_many_in (Many many) = true

-- a list is of few members, and the scores of many are theirs by the rule
abbrev pub IsFormOf : Rule → Form → Type 0
IsFormOf rule (Few list) = AreFew list.items
IsFormOf rule (Many many) = AreScored rule many.value.held

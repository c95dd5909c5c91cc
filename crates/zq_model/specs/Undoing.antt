-- A tail that is kept with what each record's member had before it, so that it can be undone from
-- the state.

use Rattle.std.specs.FinMap.{get}
use Rattle.std.specs.Prelude.{List, [], ◌∷◌, ◌≡◌}
use Rattle.zq_model.specs.Books.{Record, operation_of}
use Rattle.zq_model.specs.Image.{Entry, Image, Members, image_after, place_of, put_entry, unless_bare}
use Rattle.zq_model.specs.Operation.{Operation}

-- a record, and the entry that its member had before it, without additions where the member did not
-- stand
pub record Leaf : Type 0 where
  pub written : Record
  pub before : Entry

abbrev pub operation_on : Leaf → Operation
operation_on leaf = operation_of leaf.written.change

-- the members before these records, from those after them: each record's member gets back what it
-- had, the newest record first
abbrev pub undone : List Leaf → Members → Members
undone [] members = members
undone (leaf ∷ leaves) members =
    put_entry (undone leaves members) (place_of (operation_on leaf)) leaf.before

-- what each record keeps is what its member had where the record came
abbrev pub AreKept : List Leaf → Image → Type 0
AreKept [] a = Unit {0}
AreKept (leaf ∷ leaves) a = (get a.members (place_of (operation_on leaf)) ≡ unless_bare leaf.before)
    × AreKept leaves (image_after (operation_on leaf) a)

-- the image after these records
abbrev pub after_leaves : List Leaf → Image → Image
after_leaves [] a = a
after_leaves (leaf ∷ leaves) a = after_leaves leaves (image_after (operation_on leaf) a)

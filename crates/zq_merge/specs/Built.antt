-- A state that is made key by key.

use Rattle.std.specs.Prelude.{List, None, Option, Some, [], drop, length, map, true, ℕ, ◌∷◌, ◌≡◌, ◌≢◌}
use Rattle.zq_merge.specs.Frame.{Frame}
use Rattle.zq_merge.specs.Keys.{KeyRows, MemberRow, by_key, member_of, rows_in}
use Rattle.zq_merge.specs.Reading.{is_after}
use Rattle.zq_merge.specs.Sound.{IsSoundRow}
use Rattle.zq_merge.specs.State.{heap_image}
use Rattle.zq_model.specs.Rows.{Row, rows_of}
use Rattle.zq_model.specs.Sets.{IsIn}
use Rattle.zq_shard.specs.Shard.{HeapImage}

-- each member is above the one before it
abbrev pub AreMembersAbove : Option (List ℕ) → List MemberRow → Type 0
AreMembersAbove before [] = Unit {0}
AreMembersAbove before (m ∷ members) = (is_after before m.member ≡ true)
    × AreMembersAbove (Some m.member) members

-- each key is above the one before it, and has members that rise
abbrev pub AreKeysAbove : Option (List ℕ) → List KeyRows → Type 0
AreKeysAbove before [] = Unit {0}
AreKeysAbove before (k ∷ keys) = (is_after before k.key ≡ true)
    × ((k.members ≢ []) × (AreMembersAbove None k.members × AreKeysAbove (Some k.key) keys))

-- the keys of a state with their members
abbrev pub keys_of : HeapImage → List KeyRows
keys_of s = by_key (rows_of s.image)

-- the members of a state behind those of an earlier one
abbrev pub members_since : HeapImage → HeapImage → List MemberRow
members_since old new = map member_of (drop (length (rows_of old.image)) (rows_of new.image))

-- the state of these keys, each row of which is sound
pub record IsBuilt (frame : Frame) (keys : List KeyRows) (s : HeapImage) : Type 0 where
  pub is : s ≡ heap_image frame keys
  pub above : AreKeysAbove None keys
  pub sound : (row : Row) → IsIn row (rows_in keys) → IsSoundRow frame row

-- The order of notes.

use Rattle.std.specs.Prelude.{List, [], ℕ, ◌<◌, ◌∷◌, ◌≡◌, ◌≤◌}
use Rattle.zq_model.specs.Sets.{IsIn}
use Rattle.zq_notes.specs.Notes.{Note}

-- the note n may stand before m
pub record IsBefore (n m : Note) : Type 0 where
  pub stamp : n.stamp ≤ m.stamp
  pub heap : (h : ℕ) → IsIn h n.heaps → IsIn h m.heaps → n.stamp < m.stamp
  pub pass : n.pass ≡ m.pass → n.stamp < m.stamp

abbrev pub AllAfter : Note → List Note → Type 0
AllAfter n [] = Unit {0}
AllAfter n (m ∷ notes) = IsBefore n m × AllAfter n notes

-- stamps never fall, and rise strictly in each heap and along each pass
abbrev pub AreOrdered : List Note → Type 0
AreOrdered [] = Unit {0}
AreOrdered (n ∷ notes) = AllAfter n notes × AreOrdered notes

-- What a node does with operations.

use Rattle.std.specs.Prelude.{List, [], length, ℕ, ◌++◌, ◌<◌, ◌≡◌, ◌≤◌, ◌∷◌, ◌⊎◌}
use Rattle.zq_dots.specs.Placed.{Placed}
use Rattle.zq_model.specs.Sets.{IsIn}
use Rattle.zq_node.specs.Calls.{AreCalled, Asked, Call, Copied, Drained, HadNoRoom, IsCalled, IsEarlyTo, IsKnownTo, MadeNoStep, Merged, Portioned, Saw, Took, TookAll, TookOver, WasAtLast, WasTaken}
use Rattle.zq_node.specs.Node.{IsSameHome, most_of, parked_of, pass_of, site_of}
use Rattle.zq_node.specs.Parked.{Entries, HasPlaceOf, IsParked, IsPutAway}
use Rattle.zq_node.specs.declared.node.Node.{Node}
use Rattle.zq_shard.specs.declared.taken.Taken.{Taken}
use Rattle.zq_shard.specs.declared.taken.Taken.TheVariants.{Early, Known, New}
use Rattle.zq_spread.specs.declared.pass.Pass.{Pass}
use Rattle.zq_spread.specs.declared.site.Site.{Site}

-- it hands the site some of these operations or one that is parked, or looks at a vector
abbrev pub IsOwed : List Placed → Entries → Call → Type 0
IsOwed ops parked (Took op answer) = IsIn op ops ⊎ IsParked parked op
IsOwed ops parked (TookAll heap batch answer) = (o : Placed) → IsIn o batch → IsIn o ops
IsOwed ops parked (Saw heap vector) = Unit {0}
IsOwed ops parked (Merged shard) = ⊥
IsOwed ops parked (TookOver shard) = ⊥
IsOwed ops parked (Asked heap vector answer) = ⊥
IsOwed ops parked (Copied heap shard) = ⊥
IsOwed ops parked (Portioned heap spot limits portion) = ⊥
IsOwed ops parked (Drained heap vector most answer) = ⊥

-- these calls alone were made: by them these operations and those that were parked were handed to
-- the site; what was parked stays unless it was taken, and what is parked then was parked before or
-- is one of these
pub record IsWork (site : Site) (ops : List Placed) (parked left : Entries)
    (before after : Pass) : Type 0 where
  pub calls : List Call
  pub called : AreCalled site before after calls
  pub only : (c : Call) → IsIn c calls → IsOwed ops parked c
  pub kept : (o : Placed) → IsParked parked o → IsParked left o ⊎ WasTaken calls o
  pub found : (o : Placed) → IsParked left o → IsParked parked o ⊎ IsIn o ops

-- the work of a node with these operations, by its pass up to this one
abbrev pub HasWorkedTo : List Placed → Node → Node → Pass → Type 0
HasWorkedTo ops old new after =
    IsWork (site_of old) ops (parked_of old) (parked_of new) (pass_of old) after

abbrev pub HasWorked : List Placed → Node → Node → Type 0
HasWorked ops old new = HasWorkedTo ops old new (pass_of new)

-- its work, up to a call that was refused, which made no step
abbrev pub WasStopped : List Placed → Node → Node → Type 0
WasStopped ops old new = (mid : Pass) × HasWorkedTo ops old new mid × MadeNoStep mid (pass_of new)

-- what is parked of a heap is Early by what the pass has then seen there
abbrev pub WaitIn : Node → ℕ → Type 0
WaitIn new heap = (o : Placed) → IsParked (parked_of new) o → o.operation.heap ≡ heap →
    IsEarlyTo (pass_of new) o

-- all that is parked is Early by what the pass has then seen
abbrev pub AllWait : Node → Type 0
AllWait new = (o : Placed) → IsParked (parked_of new) o → IsEarlyTo (pass_of new) o

-- ---- operations in turn

-- what a node does by the site's answer: after a New one it tries what is parked in its heap until
-- all of that is Early, after a Known one it does nothing, and an Early one is put away
abbrev pub DoesAfter : Taken → Placed → Node → Node → Type 0
DoesAfter New o asked new = HasWorked [] asked new × WaitIn new o.operation.heap
    × (length (parked_of new) ≤ length (parked_of asked))
DoesAfter Known o asked new = new ≡ asked
DoesAfter Early o asked new = (pass_of new ≡ pass_of asked)
    × IsPutAway (most_of asked) o (parked_of asked) (parked_of new)

-- the site was handed an operation, and the node did what follows
pub record IsTurn (o : Placed) (old new : Node) : Type 0 where
  pub answer : Taken
  pub asked : Node
  pub called : IsCalled (site_of old) (pass_of old) (pass_of asked) (Took o answer)
  pub parked : parked_of asked ≡ parked_of old
  pub home : IsSameHome old asked
  pub does : DoesAfter answer o asked new
  pub stays : IsSameHome old new

-- why memory was lacking at an operation's turn: the site has none for it, where it is New; or the
-- node none for its copy, where it is Early and to be parked; or a parked one that was tried after
-- it found none, where it was New. A Known one wants none
pub data WasShort (o : Placed) (old new : Node) : Type 0 where
  taking : HadNoRoom (site_of old) (pass_of old) (pass_of new) o → WasShort o old new
  copying : (asked : Pass) → IsCalled (site_of old) (pass_of old) asked (Took o Early) →
      (HasPlaceOf (parked_of old) o → ⊥) →
      length (parked_of old) < most_of old → WasShort o old new
  settling : (asked : Pass) → IsCalled (site_of old) (pass_of old) asked (Took o New) →
      WasShort o old new

-- why a last value was found at an operation's turn: by the site as it was handed it, or by a
-- parked one that was tried after it, where it was New
pub data WasWorn (o : Placed) (old new : Node) : Type 0 where
  handing : WasAtLast (site_of old) (pass_of old) (pass_of new) o → WasWorn o old new
  trying : (asked : Pass) → IsCalled (site_of old) (pass_of old) asked (Took o New) →
      WasWorn o old new

-- it was handed each of these, one after the other
abbrev pub AreTurns : List Placed → Node → Node → Type 0
AreTurns [] old new = new ≡ old
AreTurns (o ∷ ops) old new = (next : Node) × IsTurn o old next × AreTurns ops next new

-- one of the operations was dropped, as if it had been lost: it was Early when its turn came, and
-- as many were parked as may be
pub record WasDropped (ops : List Placed) (old : Node) (o : Placed) : Type 0 where
  pub first : List Placed
  pub rest : List Placed
  pub split : ops ≡ first ++ o ∷ rest
  pub found : Node
  pub turns : AreTurns first old found
  pub asked : Pass
  pub called : IsCalled (site_of old) (pass_of found) asked (Took o Early)
  pub full : most_of found ≤ length (parked_of found)

-- one of the operations that were heard is in the vector that the pass has then seen, or it is
-- parked, or one of its heap and dot is, or it was dropped. No honest site makes two of one heap
-- and dot
abbrev pub IsHeard : List Placed → Node → Node → Placed → Type 0
IsHeard ops old new o = IsKnownTo (pass_of new) o ⊎ HasPlaceOf (parked_of new) o
    ⊎ WasDropped ops old o

-- What a node does with a list of operations, of which it hands its site many at a time.

use Rattle.std.specs.Prelude.{List, [], length, ℕ, ◌++◌, ◌≡◌, ◌≤◌, ◌∷◌, ◌⊎◌}
use Rattle.zq_dots.specs.Placed.{Placed}
use Rattle.zq_model.specs.Sets.{IsIn}
use Rattle.zq_node.specs.Calls.{IsEarlyTo, IsKnownTo}
use Rattle.zq_node.specs.Faults.{IsOwnFault}
use Rattle.zq_node.specs.Node.{IsSameHome, most_of, parked_of, pass_of, site_of}
use Rattle.zq_node.specs.Parked.{HasPlaceOf, IsPutAway}
use Rattle.zq_node.specs.Work.{AllWait, HasWorked, WasStopped}
use Rattle.zq_node.specs.declared.faults.NodeFault.{NodeFault}
use Rattle.zq_node.specs.declared.faults.NodeFault.TheVariants as fault
use Rattle.zq_node.specs.declared.node.Node.{Node}
use Rattle.zq_spread.specs.Calls.{IsOfSite}
use Rattle.zq_spread.specs.declared.site.Site.{Site}
use Rattle.zq_spread.specs.declared.taken_all.TakeEnd.{TakeEnd}
use Rattle.zq_spread.specs.declared.taken_all.TakeEnd.TheVariants.{All, Early, Refused}
use Rattle.zq_node.specs.Faults.{untaken}

-- one of these operations was dropped, as if it had been lost: in the midst of the work it was Early
-- by what the pass had seen, and as many were parked as may be
pub record WasLeftOut (ops : List Placed) (old new : Node) (o : Placed) : Type 0 where
  pub found : Node
  pub home : IsSameHome old found
  pub first : HasWorked ops old found
  pub rest : HasWorked ops found new
  pub early : IsEarlyTo (pass_of found) o
  pub full : most_of found ≤ length (parked_of found)

-- one of them is in the vector that the pass has then seen, or it is parked, or one of its heap and
-- dot is, or it was dropped. No honest site makes two of one heap and dot
abbrev pub IsKept : List Placed → Node → Node → Placed → Type 0
IsKept ops old new o = IsKnownTo (pass_of new) o ⊎ HasPlaceOf (parked_of new) o
    ⊎ WasLeftOut ops old new o

-- the node has worked with the operations, and has heard these of them
pub record HasHeardSome (ops heard : List Placed) (old new : Node) : Type 0 where
  pub work : HasWorked ops old new
  pub each : (o : Placed) → IsIn o heard → IsKept ops old new o

-- it has heard all of them, and those that are parked wait
pub record HasHeardAll (ops : List Placed) (old new : Node) : Type 0 where
  pub some : HasHeardSome ops ops old new
  pub wait : AllWait new

-- why the node hears no more, by what it has not heard: WrongHeap where the first of that is not the
-- site's, and else the site's own fault
abbrev pub IsStopBefore : Site → List Placed → NodeFault → Type 0
IsStopBefore site [] why = IsOwnFault why
IsStopBefore site (o ∷ left) fault.WrongHeap = IsOfSite site o → ⊥
IsStopBefore site (o ∷ left) fault.WrongRule = ⊥
IsStopBefore site (o ∷ left) fault.Worn = Unit {0}
IsStopBefore site (o ∷ left) fault.NoMemory = Unit {0}

-- it has heard the first of the operations, and was stopped in its work, by a call that made no
-- step: what was taken or parked before stays
pub record WasStoppedIn (ops : List Placed) (old new : Node) (why : NodeFault) : Type 0 where
  pub heard : List Placed
  pub left : List Placed
  pub split : ops ≡ heard ++ left
  pub mid : Node
  pub some : HasHeardSome ops heard old mid
  pub stopped : WasStopped ops mid new
  pub stop : IsStopBefore (site_of old) left why

-- an operation that the site took not: one that is Early is put away
abbrev pub IsPutOff : TakeEnd → Placed → Node → Node → Type 0
IsPutOff All o old new = ⊥
IsPutOff Early o old new = IsPutAway (most_of old) o (parked_of old) (parked_of new)
IsPutOff (Refused why) o old new = ⊥

-- or why it is not
abbrev pub IsNotPutOff : TakeEnd → NodeFault → Type 0
IsNotPutOff All why = ⊥
IsNotPutOff Early why = why ≡ fault.NoMemory
IsNotPutOff (Refused refused) why = why ≡ untaken refused

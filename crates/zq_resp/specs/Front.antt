-- What stands at the front of a text.
use Rattle.std.specs.Prelude.{}
use Rattle.zq_resp.specs.declared.fault.FeedFault.{FeedFault}

-- a value, less than the whole of one, or what begins none
pub data Front (X : Type 0) : Type 0 where
  Got : (found : X) → Front X
  Part : Front X
  Wrong : (fault : FeedFault) → Front X

-- what is found is read on by a function of it
infixl 10 ◌>>=◌
abbrev pub ◌>>=◌ : {X Y : Type 0} → Front X → (X → Front Y) → Front Y
(Got x) >>= f = f x
Part >>= f = Part
(Wrong fault) >>= f = Wrong fault

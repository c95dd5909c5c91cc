-- What goes to a peer.

use Rattle.std.proofs.Common.{List, Option, Some, [], subst, sym, ℕ, ◌++◌, ◌∷◌, ◌≡◌}
use Rattle.std.specs.Prelude.{Err, Ok, OnOk, Result, Vec}
use Rattle.std.specs.declared.alloc.Global.{Global}
use Rattle.zq_node.specs.declared.faults.NodeFault.{NodeFault}
use Rattle.zq_replica.specs.Put.{AreOpsOf, HasPut}

-- the bytes of a frame came behind what went before
pub put_so : (r : Result (Unit {0}) NodeFault) (peer : ℕ) (frame : Option (Vec ℕ Global))
    (its bytes : Vec ℕ Global) (old new : List (ℕ × Vec ℕ Global)) → frame ≡ Some its →
    AreOpsOf its bytes → OnOk r (new ≡ old ++ (peer, bytes) ∷ []) →
    OnOk r (HasPut peer frame old new)
put_so (Ok x) peer frame its bytes old new is same went =
    subst (λ (o : Option (Vec ℕ Global)). HasPut peer o old new) (sym is) (bytes, went, same)
put_so (Err e) peer frame its bytes old new is same went = tt

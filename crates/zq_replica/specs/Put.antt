-- What goes to a peer.

use Rattle.std.specs.List.{All}
use Rattle.std.specs.Prelude.{List, None, Option, Some, Vec, [], length, ℕ, ◌++◌, ◌<◌, ◌^◌, ◌∷◌, ◌≡◌}
use Rattle.std.specs.declared.alloc.Global.{Global}
use Rattle.zq_dots.specs.Placed.{IsRanged, Placed}
use Rattle.zq_links.specs.Batch.{IsOneOf}
use Rattle.zq_links.specs.Frame.{OfOps}
use Rattle.zq_links.specs.Spelling.{frame_spelling, newest}

-- the bytes are of the same operations as the frame, as they are or by differences
abbrev pub AreOpsOf : Vec ℕ Global → Vec ℕ Global → Type 0
AreOpsOf frame bytes = (ops : List Placed) → All IsRanged ops → length ops < 2 ^ 32 →
    frame.items ≡ frame_spelling (newest (OfOps ops)) → IsOneOf (OfOps ops) bytes.items

-- a frame of operations, and how it is spelt
pub record SpeltFrame : Type 0 where
  pub frame : Vec ℕ Global
  pub bytes : Vec ℕ Global

-- the operations of the frame, if there is one, came behind what goes to peers, to this one
abbrev pub HasPut : ℕ → Option (Vec ℕ Global) → List (ℕ × Vec ℕ Global) →
    List (ℕ × Vec ℕ Global) → Type 0
HasPut peer None old new = new ≡ old
HasPut peer (Some frame) old new =
    (bytes : Vec ℕ Global) × (new ≡ old ++ (peer, bytes) ∷ []) × AreOpsOf frame bytes

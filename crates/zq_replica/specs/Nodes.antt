-- What becomes of a node.

use Rattle.std.specs.Prelude.{Bool, List, false, true, ℕ, ◌<◌, ◌≡◌, ◌⊎◌}
use Rattle.zq_dots.specs.Placed.{Placed}
use Rattle.zq_links.specs.Frame.{Frame}
use Rattle.zq_links.specs.declared.frame.Frame as code
use Rattle.zq_links.specs.declared.frame.Frame.TheVariants as heard
use Rattle.zq_node.specs.Batches.{HasHeardAll, WasStoppedIn}
use Rattle.zq_node.specs.Calls.{IsCalled, Saw}
use Rattle.zq_node.specs.Gained.{TookNothing}
use Rattle.zq_node.specs.Hearing.{HasHeard, HasStopped}
use Rattle.zq_node.specs.Node.{IsSameHome, parked_of, pass_of, site_of}
use Rattle.zq_node.specs.declared.faults.NodeFault.{NodeFault}
use Rattle.zq_node.specs.declared.node.Node.{Node}

-- the site was asked what it has, or its heaps were drained, and it took nothing; what is parked is
-- the same
pub record Shows (old new : Node) : Type 0 where
  pub home : IsSameHome old new
  pub parked : parked_of new ≡ parked_of old
  pub took_nothing : TookNothing (pass_of old) (pass_of new)

-- the site showed this vector of a heap, and before and after that it was asked alone what it has
pub record WasShown (old new : Node) (heap : ℕ) (vector : List ℕ) : Type 0 where
  pub before : Node
  pub asked : Shows old before
  pub after : Node
  pub saw : IsCalled (site_of before) (pass_of before) (pass_of after) (Saw heap vector)
  pub then_asked : Shows after new

-- the site showed a vector of a heap, and this is whether it passes the test
abbrev pub IsTested : ℕ → (List ℕ → Bool) → Node → Node → Bool → Type 0
IsTested heap test old new passes = (vector : List ℕ) × WasShown old new heap vector
    × (test vector ≡ passes)

-- whether the vector of one of so many heaps passes the test of the heap, or none does
abbrev pub IsAnyTested : ℕ → (ℕ → List ℕ → Bool) → Node → Node → Bool → Type 0
IsAnyTested heaps test old new true =
    (heap : ℕ) × (heap < heaps) × IsTested heap (test heap) old new true
IsAnyTested heaps test old new false =
    (heap : ℕ) → heap < heaps → IsTested heap (test heap) old new false

-- these are the operations of the frame
abbrev pub IsOpsOf : code.Frame → List Placed → Type 0
IsOpsOf (heard.Have have) ops = ⊥
IsOpsOf (heard.Ops its) ops = its.items ≡ ops
IsOpsOf (heard.State shard) ops = ⊥

-- the node heard these operations, all of them or as far as it came
abbrev pub HearsOps : List Placed → Node → Node → Type 0
HearsOps ops old new = HasHeardAll ops old new ⊎ ((why : NodeFault) × WasStoppedIn ops old new why)

-- the node heard this frame, to its end or as far as it came, or its operations
abbrev pub Hears : code.Frame → Node → Node → Type 0
Hears frame old new = ((sent : List (ℕ × Frame)) × HasHeard frame old new sent)
    ⊎ ((why : NodeFault) × HasStopped frame old new why)
    ⊎ ((ops : List Placed) × IsOpsOf frame ops × HearsOps ops old new)

-- the node heard this frame, and before and after that the site was asked alone what it has
pub record Heard (frame : code.Frame) (old new : Node) : Type 0 where
  pub before : Node
  pub asked : Shows old before
  pub after : Node
  pub heard : Hears frame before after
  pub then_asked : Shows after new

-- the site took nothing but what this frame brings
abbrev pub IsGiven : code.Frame → Node → Node → Type 0
IsGiven frame old new = Shows old new ⊎ Heard frame old new

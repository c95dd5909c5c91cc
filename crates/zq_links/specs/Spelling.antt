-- The one spelling of each frame, where the versions of its parts are given.

use Rattle.std.specs.Int.{to_be_bytes, w32}
use Rattle.std.specs.Prelude.{All, List, flat_map, length, map, ℕ, ◌++◌, ◌<◌, ◌∷◌, ◌≡◌}
use Rattle.zq_delta.specs.Spelling.{op_spelling}
use Rattle.zq_delta.specs.Version as delta
use Rattle.zq_delta.specs.declared.version.Version as op
use Rattle.zq_delta.specs.declared.version.Version.TheVariants.{Two}
use Rattle.zq_dots.specs.Placed.{Placed}
use Rattle.zq_links.specs.Frame.{Frame, Have, OfHave, OfOps, OfState}
use Rattle.zq_links.specs.Kind.{kind_byte}
use Rattle.zq_links.specs.declared.kind.Kind.TheVariants as kind
use Rattle.zq_merge.specs.Spelling.{rule_bytes, vector_bytes}
use Rattle.zq_merge.specs.State as merge
use Rattle.zq_merge.specs.Version.{HasRule, HasVector, sites}
use Rattle.zq_merge.specs.declared.version.Version.{Version}
use Rattle.zq_merge.specs.declared.version.Version.TheVariants.{Three}
use Rattle.zq_shard.specs.Shard.{HeapImage}

-- an operation with the version that it is spelled in
abbrev pub SpelledOp : Type 0
SpelledOp = op.Version × Placed

-- a frame with the versions that its parts are spelled in
pub data Spelled : Type 0 where
  HaveIn : (v : Version) (have : Have) → Spelled
  OpsIn : (ops : List SpelledOp) → Spelled
  StateIn : (v : Version) (state : HeapImage) → Spelled

-- its operation
abbrev pub op_of : SpelledOp → Placed
op_of o = o.1

-- its frame
abbrev pub value_of : Spelled → Frame
value_of (HaveIn v have) = OfHave have
value_of (OpsIn ops) = OfOps (map op_of ops)
value_of (StateIn v state) = OfState state

-- ---- which versions have a spelling

-- the version knows the sender and the vector, and means the rule
pub record HasHave (v : Version) (h : Have) : Type 0 where
  pub from : h.from < sites v
  pub rule : HasRule v h.rule
  pub vector : HasVector v h.vector

abbrev pub HasOp : SpelledOp → Type 0
HasOp o = delta.HasSpelling o.0 o.1

-- Each version has a spelling of its part.
abbrev pub HasSpelling : Spelled → Type 0
HasSpelling (HaveIn v have) = HasHave v have
HasSpelling (OpsIn ops) = All HasOp ops
HasSpelling (StateIn v state) = merge.HasSpelling v state

-- ---- spellings

-- the number of heaps, the heap, the sender, the rule where the version has it, and the vector
unfoldable pub have_bytes : Version → Have → List ℕ
have_bytes v h = h.heaps ∷ h.heap ∷ h.from ∷ (rule_bytes v h.rule ++ vector_bytes v h.vector)

abbrev pub op_bytes : SpelledOp → List ℕ
op_bytes o = op_spelling o.0 o.1

-- the number of operations, and each
unfoldable pub ops_bytes : List SpelledOp → List ℕ
ops_bytes ops = to_be_bytes w32 (length ops) ++ flat_map op_bytes ops

-- the kind, and what it is of
abbrev pub frame_spelling : Spelled → List ℕ
frame_spelling (HaveIn v have) = kind_byte (kind.Have v) ∷ have_bytes v have
frame_spelling (OpsIn ops) = kind_byte kind.Ops ∷ ops_bytes ops
frame_spelling (StateIn v state) = kind_byte kind.State ∷ merge.state_spelling v state

-- the bytes are a spelling of the frame
abbrev pub IsSpelled : Frame → List ℕ → Type 0
IsSpelled f bytes = (s : Spelled) × HasSpelling s × (value_of s ≡ f) × (bytes ≡ frame_spelling s)

-- ---- the newest versions

abbrev pub newest_op : Placed → SpelledOp
newest_op o = (Two, o)

-- the frame in the versions that are written
abbrev pub newest : Frame → Spelled
newest (OfHave have) = HaveIn Three have
newest (OfOps ops) = OpsIn (map newest_op ops)
newest (OfState state) = StateIn Three state

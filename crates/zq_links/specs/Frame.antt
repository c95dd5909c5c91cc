-- Frames, apart from how they are spelled.

use Rattle.std.specs.Prelude.{All, List, length, ℕ, ◌<◌, ◌^◌}
use Rattle.zq_dots.specs.Placed.{IsRanged, Placed}
use Rattle.zq_dots.specs.Rule.{rule_of}
use Rattle.zq_links.specs.declared.frame.Frame as code
use Rattle.zq_links.specs.declared.frame.Frame.TheVariants as variant
use Rattle.zq_links.specs.declared.frame.Have as have
use Rattle.zq_merge.specs.State.{IsState}
use Rattle.zq_model.specs.Rule.{Rule}
use Rattle.zq_model.specs.Sets.{IsCounters, IsHeaps, SITES}
use Rattle.zq_shard.specs.Shard.{HeapImage}

-- what the site from has in one of its heaps, by this rule
pub record Have : Type 0 where
  pub from : ℕ
  pub heap : ℕ
  pub heaps : ℕ
  pub rule : Rule
  pub vector : List ℕ

pub data Frame : Type 0 where
  OfHave : (have : Have) → Frame
  OfOps : (ops : List Placed) → Frame
  OfState : (state : HeapImage) → Frame

-- its numbers are in range
pub record IsHave (h : Have) : Type 0 where
  pub from : h.from < SITES
  pub heaps : IsHeaps h.heaps
  pub heap : h.heap < h.heaps
  pub vector : IsCounters h.vector

-- its numbers are in range, and four bytes count its operations
abbrev pub IsFrame : Frame → Type 0
IsFrame (OfHave h) = IsHave h
IsFrame (OfOps ops) = All IsRanged ops × (length ops < 2 ^ 32)
IsFrame (OfState s) = IsState s

-- ---- the code's

abbrev pub have_of : have.Have → Have
have_of h = record { from = h.from; heap = h.heap; heaps = h.heaps; rule = rule_of h.rule; vector = h.vector }

abbrev pub frame_of : code.Frame → Frame
frame_of (variant.Have h) = OfHave (have_of h)
frame_of (variant.Ops ops) = OfOps ops.items
frame_of (variant.State s) = OfState s

-- what can be written: the numbers of a Have are in range, and four bytes count the operations
abbrev pub IsWritable : code.Frame → Type 0
IsWritable (variant.Have h) = IsHave (have_of h)
IsWritable (variant.Ops ops) = length ops.items < 2 ^ 32
IsWritable (variant.State s) = Unit {0}

-- What a log says of a heap, but for its members.

use Rattle.std.specs.Prelude.{List, Some, length, map, slice_get, slice_index, true, ℕ, ◌≡◌, ◌≤◌}
use Rattle.zq_dots.specs.Rule.{rule_of}
use Rattle.zq_fields.specs.Vectors.{no_counters}
use Rattle.zq_keeper.specs.declared.outline.Outline.{Outline}
use Rattle.zq_model.specs.Sets.{IsCounters}
use Rattle.zq_recovery.specs.declared.opening.Identity.{Identity}
use Rattle.zq_stage.specs.Piece.{Staged}

-- that of a heap which was read
abbrev pub outline_of : Staged → Outline
outline_of t = record {
  vector = t.held.image.vector;
  life = t.life;
  next = t.next;
  whole = t.whole;
}

-- that of a heap in which nothing was done
abbrev pub empty_outline : Outline
empty_outline = record { vector = no_counters; life = 0; next = 1; whole = true }

abbrev pub outlines_of : List Staged → List Outline
outlines_of stages = map outline_of stages

-- the last piece came of each heap
abbrev pub AreAllWhole : List Outline → Type 0
AreAllWhole outlines = (h : ℕ) (x : Outline) → slice_get outlines h ≡ Some x → x.whole ≡ true

-- their vectors are of counters in range
abbrev pub AreCounted : List Outline → Type 0
AreCounted outlines = (h : ℕ) (x : Outline) → slice_get outlines h ≡ Some x → IsCounters x.vector

-- the stage is of this heap of the site
pub record IsStageOf (i : Identity) (h : ℕ) (t : Staged) : Type 0 where
  pub heap : t.held.heap ≡ h
  pub heaps : t.held.heaps ≡ i.heaps
  pub rule : t.held.rule ≡ rule_of i.rule

-- these are the stages of the heaps of the site, and of each the outline
pub record AreOutlined (i : Identity) (said : List Outline) (stages : List Staged) : Type 0
  where
    pub number : length stages ≡ i.heaps
    pub each : (h : ℕ) (t : Staged) → slice_get stages h ≡ Some t → IsStageOf i h t
    pub outlines : outlines_of stages ≡ said

-- each heap has all that it has there
abbrev pub Cover : List Outline → List Outline → Type 0
Cover said told = (h : ℕ) (x : Outline) → slice_get told h ≡ Some x →
    (y : Outline) × (slice_get said h ≡ Some y)
    × ((s : ℕ) → slice_index x.vector s ≤ slice_index y.vector s)

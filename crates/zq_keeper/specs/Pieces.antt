-- What pieces and seals make of the outlines of a site's heaps.

use Rattle.std.specs.Prelude.{List, Some, slice_get, slice_set, true, ◌+◌, ◌<◌, ◌≡◌, ◌≢◌, ◌||◌, ◌⊎◌}
use Rattle.zq_dots.specs.Rule.{rule_of}
use Rattle.zq_entries.specs.declared.sealed.Sealed.{Sealed}
use Rattle.zq_keeper.specs.declared.next.Part.{Part}
use Rattle.zq_keeper.specs.declared.next.Part.TheVariants.{Coming, Waiting}
use Rattle.zq_keeper.specs.declared.outline.Outline.{Outline}
use Rattle.zq_links.specs.declared.piece.Piece.{Piece}
use Rattle.zq_model.specs.Sets.{IsCounters, covers}
use Rattle.zq_recovery.specs.Step.{is_end}
use Rattle.zq_recovery.specs.declared.opening.Identity.{Identity}
use Rattle.zq_stage.specs.Piece.{MOST_PIECES}

-- it is the first of a stream, and knows all that the heap has
pub record Begins (p : Piece) (old new : Outline) : Type 0 where
  pub first : p.number ≡ 0
  pub covers_old : covers p.part.image.vector old.vector ≡ true
  pub outline : new ≡ record {
    vector = p.part.image.vector;
    life = p.life;
    next = 1;
    whole = is_end p.next;
  }

-- it is the next one of the stream
pub record GoesOn (p : Piece) (old new : Outline) : Type 0 where
  pub later : p.number ≢ 0
  pub same_life : old.life ≡ p.life
  pub is_next : old.next ≡ p.number
  pub few : p.number < MOST_PIECES
  pub vector : old.vector ≡ p.part.image.vector
  pub outline : new ≡ record old { next = p.number + 1; whole = old.whole || is_end p.next }

-- in the outline of its heap, which is of the site
pub record Comes (i : Identity) (p : Piece) (old new : List Outline) : Type 0 where
  pub heaps : p.part.heaps ≡ i.heaps
  pub rule : p.part.rule ≡ rule_of i.rule
  pub counters : IsCounters p.part.image.vector
  pub before : Outline
  pub after : Outline
  pub there : slice_get old p.part.heap ≡ Some before
  pub comes : Begins p before after ⊎ GoesOn p before after
  pub outlines : new ≡ slice_set old p.part.heap after

-- all pieces of the heap came, and it has just the vector's operations
pub record IsWhole (i : Identity) (w : Sealed) (outlines : List Outline) : Type 0 where
  pub outline : Outline
  pub heaps : w.heap.heaps ≡ i.heaps
  pub there : slice_get outlines w.heap.heap ≡ Some outline
  pub whole : outline.whole ≡ true
  pub vector : outline.vector ≡ w.vector

-- it is the first one, and has all operations that the log has of its heap
pub record IsFirst (outlines : List Outline) (p : Piece) : Type 0 where
  pub first : p.number ≡ 0
  pub outline : Outline
  pub there : slice_get outlines p.part.heap ≡ Some outline
  pub covers_log : covers p.part.image.vector outline.vector ≡ true

-- the pieces of its heap are coming, or wait for such a first one
abbrev pub IsDue : List Outline → List Part → Piece → Type 0
IsDue outlines parts p = (slice_get parts p.part.heap ≡ Some Coming)
    ⊎ ((slice_get parts p.part.heap ≡ Some Waiting) × IsFirst outlines p)

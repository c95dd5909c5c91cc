-- The sets of operations behind the stages of a site's heaps.

use Rattle.std.specs.Prelude.{List, Some, [], if◌then◌else◌, slice_get, ℕ, ◌++◌, ◌==◌, ◌∷◌, ◌≡◌}
use Rattle.zq_dots.specs.Placed.{Placed}
use Rattle.zq_entries.specs.declared.entry.Entry.{Entry}
use Rattle.zq_entries.specs.declared.entry.Entry.TheVariants as variant
use Rattle.zq_fields.specs.Vectors.{no_counters}
use Rattle.zq_links.specs.declared.piece.Piece.{Piece}
use Rattle.zq_model.specs.Operation.{Operation}
use Rattle.zq_model.specs.Rows.{Row, rows_of}
use Rattle.zq_model.specs.Sets.{IsIn}
use Rattle.zq_stage.specs.Piece.{Staged}
use Rattle.zq_stage.specs.Staged.{IsStaged}

-- the vector at which a stage was begun, the rows that came to it, and the operations that it has
pub record Behind : Type 0 where
  pub begun : List ℕ
  pub rows : List Row
  pub set : List Operation

-- nothing was done
abbrev pub nothing : Behind
nothing = record { begun = no_counters; rows = []; set = [] }

-- one for each heap
abbrev pub Sets : Type 0
Sets = ℕ → Behind

abbrev pub changed : ℕ → Behind → Sets → Sets
changed h b sets = λ k. if k == h then b else sets k

-- one operation more
abbrev pub with_op : Operation → Sets → Sets
with_op o sets = changed o.heap (record (sets o.heap) { set = o ∷ (sets o.heap).set }) sets

abbrev pub with_ops : List Placed → Sets → Sets
with_ops [] sets = sets
with_ops (o ∷ ops) sets = with_ops ops (with_op o.operation sets)

abbrev pub with_each : List (List Placed) → Sets → Sets
with_each [] sets = sets
with_each (ops ∷ batches) sets = with_each batches (with_ops ops sets)

-- what the first piece of a stream begins, of the image of this set
abbrev pub begun_of : List Operation → Piece → Behind
begun_of T p = record { begun = p.part.image.vector; rows = rows_of p.part.image; set = T }

-- that, or a further piece
abbrev pub with_piece : List Operation → Piece → Sets → Sets
with_piece T p sets =
    changed p.part.heap (
    if p.number == 0 then begun_of T p else
    record (sets p.part.heap) { rows = rows_of p.part.image ++ (sets p.part.heap).rows }
    ) sets

-- what an entry makes of them, where each piece is of the image of the set that is told
abbrev pub with_entry : (Piece → List Operation) → Entry → Sets → Sets
with_entry of (variant.Start s) sets = sets
with_entry of (variant.Round batches) sets = with_each batches.items sets
with_entry of (variant.Piece p) sets = with_piece (of p) p sets
with_entry of (variant.Sealed w) sets = sets
with_entry of variant.Rest sets = sets

abbrev pub with_entries : (Piece → List Operation) → List Entry → Sets → Sets
with_entries of [] sets = sets
with_entries of (e ∷ entries) sets = with_entries of entries (with_entry of e sets)

-- the operations are of the world W, among K heaps, and the stage has them
pub record IsBehind (K : ℕ) (W : List Operation) (h : ℕ) (b : Behind) (t : Staged) : Type 0 where
  pub heap : t.held.heap ≡ h
  pub heaps : t.held.heaps ≡ K
  pub within : (o : Operation) → IsIn o b.set → IsIn o W
  pub staged : IsStaged b.begun b.rows b.set t.held

-- at each heap
abbrev pub AreBehind : ℕ → List Operation → Sets → List Staged → Type 0
AreBehind K W sets stages = (h : ℕ) (t : Staged) → slice_get stages h ≡ Some t →
    IsBehind K W h (sets h) t

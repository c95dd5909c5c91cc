-- How many operations of a site's number, `own`, what a peer sends tells of in a heap: as many as
-- the peer knows. It is 0 where nothing is told of that.

use Rattle.std.specs.Prelude.{List, None, Option, Some, fold, if◌then◌else◌, max, slice_index, ℕ, ◌&&◌, ◌==◌}
use Rattle.zq_dots.specs.Placed.{Placed}
use Rattle.zq_links.specs.declared.control.Control as control
use Rattle.zq_links.specs.declared.control.Control.TheVariants as said
use Rattle.zq_links.specs.declared.control.Resume.{Resume}
use Rattle.zq_links.specs.declared.frame.Frame as code
use Rattle.zq_links.specs.declared.frame.Frame.TheVariants as heard
use Rattle.zq_links.specs.declared.piece.Piece.{Piece}

-- what a number of this heap tells, where it was told of that one among so many
abbrev pub told_in : ℕ → ℕ → ℕ → ℕ → ℕ → ℕ
told_in heaps heap of_heaps of_heap known =
    if (of_heaps == heaps) && (of_heap == heap) then known else 0

-- an operation of the site tells its number
abbrev pub told_by_op : ℕ → ℕ → ℕ → Placed → ℕ
told_by_op own heaps heap o = if o.operation.site == own
    then told_in heaps heap o.heaps o.operation.heap o.operation.n else 0

-- operations tell the greatest number of those of the site, in whatever order they come
abbrev pub told_by_ops : ℕ → ℕ → ℕ → List Placed → ℕ
told_by_ops own heaps heap ops = fold (λ told o. max told (told_by_op own heaps heap o)) 0 ops

-- a vector tells its count of the site
abbrev pub told_by : ℕ → ℕ → ℕ → code.Frame → ℕ
told_by own heaps heap (heard.Have h) =
    told_in heaps heap h.heaps h.heap (slice_index h.vector own)
told_by own heaps heap (heard.Ops ops) = told_by_ops own heaps heap ops.items
told_by own heaps heap (heard.State s) =
    told_in heaps heap s.heaps s.heap (slice_index s.image.vector own)

-- a piece tells what its part does
abbrev pub told_by_piece : ℕ → ℕ → ℕ → Piece → ℕ
told_by_piece own heaps heap p =
    told_in heaps heap p.part.heaps p.part.heap (slice_index p.part.image.vector own)

-- what the peer's stage of a heap has taken, where it has one
abbrev pub told_by_resume : ℕ → Option Resume → ℕ
told_by_resume own None = 0
told_by_resume own (Some r) = slice_index r.vector own

abbrev pub told_by_control : ℕ → ℕ → ℕ → control.Control → ℕ
told_by_control own heaps heap (said.Routes r) = 0
told_by_control own heaps heap (said.At a) =
    told_in heaps heap a.heaps a.heap (slice_index a.vector own)
told_by_control own heaps heap (said.Behind b) =
    told_in heaps heap b.heaps b.heap (slice_index b.vector own)
told_by_control own heaps heap (said.Fetch f) =
    told_in heaps heap f.heaps f.heap (told_by_resume own f.resume)

-- What the steps of a switch make of the next file.

use Rattle.std.specs.Prelude.{List, None, Option, Some, replicate, slice_get, slice_set, ℕ, ◌≡◌}
use Rattle.zq_entries.specs.Entry.{OfStart, start_of}
use Rattle.zq_entries.specs.declared.sealed.Sealed as sealed
use Rattle.zq_entries.specs.declared.start.Start.{Start}
use Rattle.zq_keeper.specs.Outline.{AreAllWhole, Cover, empty_outline}
use Rattle.zq_keeper.specs.Operations.{AreSealed}
use Rattle.zq_keeper.specs.Pieces.{Comes, IsDue, IsWhole}
use Rattle.zq_keeper.specs.Read.{IsSpelled}
use Rattle.zq_keeper.specs.declared.next.Next.{Next}
use Rattle.zq_keeper.specs.declared.next.Part.TheVariants.{Coming, Sealed, Waiting}
use Rattle.zq_keeper.specs.declared.outline.Outline.{Outline}
use Rattle.zq_links.specs.declared.piece.Piece.{Piece}
use Rattle.zq_recovery.specs.declared.opening.Identity.{Identity}

-- a next file in which nothing is said of any heap
abbrev pub Begun : Identity → Option Next → Type 0
Begun i None = ⊥
Begun i (Some n) = (n.heaps.items ≡ replicate i.heaps empty_outline)
    × (n.parts.items ≡ replicate i.heaps Waiting)

-- it is the entry of this start
abbrev pub IsStartEntry : Option Start → List ℕ → Type 0
IsStartEntry None bytes = ⊥
IsStartEntry (Some s) bytes = IsSpelled (OfStart (start_of s)) bytes

-- after a piece
pub record Pieced (i : Identity) (p : Piece) (old new : Next) : Type 0 where
  pub comes : Comes i p old.heaps.items new.heaps.items
  pub parts : new.parts.items ≡ slice_set old.parts.items p.part.heap Coming

-- which is due, where the log says this of the heaps
abbrev pub IsPieced : Identity → List Outline → Piece → Option Next → Option Next → Type 0
IsPieced i outlines p None new = ⊥
IsPieced i outlines p (Some n) None = ⊥
IsPieced i outlines p (Some n) (Some m) = IsDue outlines n.parts.items p × Pieced i p n m

-- after it was written that all pieces of a heap came
pub record SealedIn (i : Identity) (h : ℕ) (old : Next) (w : sealed.Sealed) (new : Next) : Type 0
  where
    pub heap : w.heap.heap ≡ h
    pub whole : IsWhole i w old.heaps.items
    pub coming : slice_get old.parts.items h ≡ Some Coming
    pub heaps : new.heaps.items ≡ old.heaps.items
    pub parts : new.parts.items ≡ slice_set old.parts.items h Sealed

abbrev pub IsSealing : Identity → ℕ → Option Next → sealed.Sealed → Next → Type 0
IsSealing i h None w new = ⊥
IsSealing i h (Some n) w new = SealedIn i h n w new

abbrev pub IsSealedIn : Identity → ℕ → Option Next → Option Next → Type 0
IsSealedIn i h old None = ⊥
IsSealedIn i h old (Some m) = (w : sealed.Sealed) × IsSealing i h old w m

-- the next file may take the log's place, and says this of the heaps: each is sealed and whole, and
-- has all that the log has
pub record Ready (n : Next) (heaps said : List Outline) : Type 0 where
  pub says : said ≡ n.heaps.items
  pub sealed : AreSealed n.parts.items
  pub whole : AreAllWhole said
  pub covers : Cover said heaps

abbrev pub IsReady : Option Next → List Outline → List Outline → Type 0
IsReady None heaps said = ⊥
IsReady (Some n) heaps said = Ready n heaps said

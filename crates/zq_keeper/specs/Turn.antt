-- What is to be written to the two files.

use Rattle.std.specs.Prelude.{List, None, Option, Some, [], ◌≡◌}
use Rattle.zq_dots.specs.Placed.{Placed}
use Rattle.zq_entries.specs.Entry.{Entry, OfRound}
use Rattle.zq_entries.specs.declared.start.Start.{Start}
use Rattle.zq_keeper.specs.Operations.{TakesEach, chosen}
use Rattle.zq_keeper.specs.Outline.{AreAllWhole, Cover}
use Rattle.zq_keeper.specs.Read.{IsSpelled, Turns}
use Rattle.zq_keeper.specs.declared.next.Next.{Next}
use Rattle.zq_keeper.specs.declared.outline.Outline.{Outline}
use Rattle.zq_keeper.specs.declared.turn.Share.{Share}
use Rattle.zq_keeper.specs.declared.turn.Turn.{Turn}
use Rattle.zq_recovery.specs.declared.opening.Identity.{Identity}

-- ---- the log

-- It is the bytes of this entry, with what the log says after it. Each heap has all that it had,
-- and is whole where it was.
pub record IsTurn (i : Identity) (start : Option Start) (outlines : List Outline) (e : Entry)
    (t : Turn) : Type 0 where
  pub entry : IsSpelled e t.entry.items
  pub turns : Turns i e start outlines (Some t.start) t.heaps.items
  pub whole : AreAllWhole outlines → AreAllWhole t.heaps.items
  pub covers : Cover t.heaps.items outlines

-- ---- the next file

-- the entry of the batches of heaps whose pieces have begun, with which the next file says this
pub record IsShareOf (i : Identity) (batches : List (List Placed)) (old : Next) (s : Share) : Type 0
  where
    pub entry : IsSpelled (OfRound (chosen old.parts.items batches)) s.entry.items
    pub noted : TakesEach i (chosen old.parts.items batches) old.heaps.items s.next.heaps.items
    pub parts : s.next.parts.items ≡ old.parts.items

-- of the next file, where a switch is going on
abbrev pub IsShare : Identity → List (List Placed) → Option Next → Option Share → Type 0
IsShare i batches None share = share ≡ None
IsShare i batches (Some n) None = chosen n.parts.items batches ≡ []
IsShare i batches (Some n) (Some share) = IsShareOf i batches n share

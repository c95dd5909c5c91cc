-- Why an entry is refused.

use Rattle.std.specs.Prelude.{List, None, Option, Some, ◌≡◌, ◌≢◌, ◌≤◌, ◌⊎◌}
use Rattle.zq_entries.specs.declared.entry.Entry.{Entry}
use Rattle.zq_entries.specs.declared.entry.Entry.TheVariants as variant
use Rattle.zq_entries.specs.declared.start.Start.{Start}
use Rattle.zq_recovery.specs.Opening.{IsOf}
use Rattle.zq_recovery.specs.Step.{AreWhole, IsWhole}
use Rattle.zq_recovery.specs.declared.opening.Identity.{Identity}
use Rattle.zq_recovery.specs.declared.refusal.Refusal.{Refusal}
use Rattle.zq_recovery.specs.declared.refusal.Refusal.TheVariants as refusal
use Rattle.zq_stage.specs.Piece.{Staged}
use Rattle.zq_stage.specs.declared.faults.PieceFault.{PieceFault}

-- a start is of another site, or else of another number of heaps, or else of the other rule
abbrev pub IsOfAnother : Identity → Start → Refusal → Type 0
IsOfAnother i s r = ((r ≡ refusal.OtherSite) × (s.site ≢ i.site))
    ⊎ (((r ≡ refusal.OtherHeaps) × (s.site ≡ i.site) × (s.heaps ≢ i.heaps))
    ⊎ ((r ≡ refusal.OtherRule) × (s.site ≡ i.site) × (s.heaps ≡ i.heaps) × (s.rule ≢ i.rule)))

-- it is of another folder than the one before, or else has no higher number
abbrev pub IsNotAfter : Start → Start → Refusal → Type 0
IsNotAfter before s r = ((r ≡ refusal.OtherFolder) × (s.folder ≢ before.folder))
    ⊎ ((r ≡ refusal.OldStart) × (s.folder ≡ before.folder) × (s.number ≤ before.number))

abbrev pub IsOutOfOrder : Option Start → Start → Refusal → Type 0
IsOutOfOrder None s r = ⊥
IsOutOfOrder (Some before) s r = IsNotAfter before s r

abbrev pub IsStartRefused : Identity → Option Start → Start → Refusal → Type 0
IsStartRefused i old s r = IsOfAnother i s r ⊎ (IsOf i s × IsOutOfOrder old s r)

-- an operation is of no heap of the site, or one before it is missing, or there was no memory
abbrev pub IsRoundRefused : Refusal → Type 0
IsRoundRefused r = (r ≡ refusal.WrongHeap) ⊎ ((r ≡ refusal.Gap) ⊎ (r ≡ refusal.NoMemory))

-- a piece is of no heap of the site, or does not follow, or there was no memory
abbrev pub IsPieceRefused : Refusal → Type 0
IsPieceRefused r = (r ≡ refusal.WrongHeap)
    ⊎ ((r ≡ refusal.NoMemory) ⊎ ((fault : PieceFault) × (r ≡ refusal.Piece fault)))

-- some heap is not whole
abbrev pub IsNotWhole : List Staged → Refusal → Type 0
IsNotWhole stages r = (r ≡ refusal.NotWhole) × (AreWhole stages → ⊥)

-- no start came before, or this is the reason
abbrev pub IsBehindNone : Option Start → Refusal → Type 0 → Type 0
IsBehindNone None r reason = r ≡ refusal.NoStart
IsBehindNone (Some s) r reason = reason

-- A start is refused for its first fault, and no other entry before the first start. A vector is
-- refused only where its heap is not whole, and a Rest where some heap is not.
abbrev pub IsRefused : Identity → Option Start → List Staged → Entry → Refusal → Type 0
IsRefused i old stages (variant.Start s) r = IsStartRefused i old s r
IsRefused i old stages (variant.Round batches) r = IsBehindNone old r (IsRoundRefused r)
IsRefused i old stages (variant.Piece p) r = IsBehindNone old r (IsPieceRefused r)
IsRefused i old stages (variant.Sealed w) r = IsBehindNone old r (IsWhole w stages → ⊥)
IsRefused i old stages variant.Rest r = IsBehindNone old r (IsNotWhole stages r)

-- What is carried, and how carriers carry.

use Rattle.std.specs.Prelude.{Bool, Err, IfOk, List, Ok, Result, Vec, [], false, true, ℕ, ◌&&◌, ◌∷◌, ◌≡◌}
use Rattle.std.specs.declared.alloc.AllocError.{AllocError}
use Rattle.std.specs.declared.alloc.Global.{Global}
use Rattle.zq_links.specs.Frame.{Frame}
use Rattle.zq_links.specs.Spelling.{frame_spelling, newest}

-- how a carrier carries what it is given, a frame or its bytes: the state before, the site, what is
-- carried, whether there was memory for it, and the state after
abbrev pub Carriage : Type 0 → Type 0 → Type 1
Carriage X C = C → ℕ → X → Bool → C → Type 0

-- these were carried, each to its site, one after the other; and whether there was memory for all
abbrev pub AreCarried : {X C : Type 0} → Carriage X C → C → C → List (ℕ × X) → Bool → Type 0
AreCarried carries old new [] whole = (old ≡ new) × (whole ≡ true)
AreCarried {X} {C} carries old new (p ∷ parcels) whole =
    (mid : C) × (first others : Bool) × carries old p.0 p.1 first mid
    × AreCarried carries mid new parcels others × (whole ≡ (first && others))

-- what comes of writing a frame: its bytes, or there was no memory for them
abbrev pub Written : Type 0
Written = Result (Vec ℕ Global) AllocError

abbrev pub IsWritten : Frame → Written → Type 0
IsWritten frame written = IfOk written (λ v. v.items ≡ frame_spelling (newest frame))

-- the bytes that were written were carried; where none were, nothing was
abbrev pub IsPassedOn : {C : Type 0} → Carriage (List ℕ) C → C → C → ℕ → Written → Bool → Type 0
IsPassedOn carries old new to (Ok v) whole = carries old to v.items whole new
IsPassedOn carries old new to (Err e) whole = (new ≡ old) × (whole ≡ false)

-- How a carrier of bytes sends a frame: it was written and its bytes were carried, whatever their
-- number, or there was no memory to write it. So frames are carried too.
abbrev pub IsSent : {C : Type 0} → Carriage (List ℕ) C → C → ℕ → Frame → Bool → C → Type 0
IsSent carries old to frame whole new = (written : Written) × IsWritten frame written
    × IsPassedOn carries old new to written whole

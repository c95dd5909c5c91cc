-- A stream of frames on its whole text, and what a reader has of it.
use Rattle.std.specs.Prelude.{◌≡◌, ℕ, ◌≤◌, Bool, true, false, List, [], ◌∷◌, ◌++◌, length, map, All, Option, Some, None, Result, Ok, Err}
use Rattle.std.specs.List.{flat_map}
use Rattle.std.specs.declared.vec.Vec.{Vec}
use Rattle.std.specs.declared.alloc.Global.{Global}
use Rattle.zq_wire.specs.declared.fault.StreamFault.{StreamFault}
use Rattle.zq_wire.specs.declared.fault.StreamFault.TheVariants as fault
use Rattle.zq_wire.specs.declared.fault.StreamError.{StreamError}
use Rattle.zq_wire.specs.Framed.{IsTooLong, IsUnfinished, framed}

-- frames by their bytes
abbrev pub Frames : Type 0
Frames = List (List ℕ)

-- what callers see of a reader: the most bytes of a frame, and those of an unfinished frame that
-- have come, None after a fault
pub record Reading : Type 0 where
  pub most : ℕ
  pub had : Option (List ℕ)

-- The bytes are these frames, each behind its length and within the most, and then the rest.
pub record Reaches (most : ℕ) (bytes : List ℕ) (frames : Frames) (rest : List ℕ) : Type 0 where
  pub spelled : bytes ≡ flat_map framed frames ++ rest
  pub small : All (λ frame. length frame ≤ most) frames

-- The bytes are these frames and then less than a whole one.
pub record Splits (most : ℕ) (bytes : List ℕ) (frames : Frames) (rest : List ℕ) : Type 0 where
  pub reaches : Reaches most bytes frames rest
  pub unfinished : IsUnfinished most rest

-- The bytes are these frames and then a length above the most.
pub record Breaks (most : ℕ) (bytes : List ℕ) (frames : Frames) : Type 0 where
  pub rest : List ℕ
  pub reaches : Reaches most bytes frames rest
  pub long : IsTooLong most rest

-- The frames before a fault: all up to a length above the most. Where memory was refused, the first
-- of them.
abbrev pub Stops : ℕ → List ℕ → StreamFault → Frames → Type 0
Stops most bytes fault.TooLong before = Breaks most bytes before
Stops most bytes fault.NoMemory before = (rest : List ℕ) × Reaches most bytes before rest
Stops most bytes fault.Over before = ⊥

-- What a reader that has some bytes of an unfinished frame answers to a piece, and what it has
-- then: None after a fault.
abbrev pub Feeds : ℕ → Option (List ℕ) → List ℕ → Result Frames (StreamFault × Frames) →
    Option (List ℕ) → Type 0
Feeds most (Some had) piece (Ok frames) (Some has) = Splits most (had ++ piece) frames has
Feeds most (Some had) piece (Err (why, before)) None = Stops most (had ++ piece) why before
Feeds most None piece (Err (fault.Over, before)) None = before ≡ []
Feeds most (Some had) piece (Ok frames) None = ⊥
Feeds most (Some had) piece (Err (why, before)) (Some has) = ⊥
Feeds most None piece (Ok frames) new = ⊥
Feeds most None piece (Err (fault.TooLong, before)) new = ⊥
Feeds most None piece (Err (fault.NoMemory, before)) new = ⊥
Feeds most None piece (Err (fault.Over, before)) (Some has) = ⊥

abbrev pub is_begun : List ℕ → Bool
is_begun [] = false
is_begun (b ∷ bytes) = true

-- whether some bytes of an unfinished frame are kept
abbrev pub is_inside : Option (List ℕ) → Bool
is_inside None = false
is_inside (Some bytes) = is_begun bytes

-- frames as lists
abbrev pub frames_in : Vec (Vec ℕ Global) Global → Frames
frames_in frames = map (λ frame. frame.items) frames.items

-- an answer as lists
abbrev pub answered : Result (Vec (Vec ℕ Global) Global) StreamError →
    Result Frames (StreamFault × Frames)
answered (Ok frames) = Ok (frames_in frames)
answered (Err error) = Err (error.fault, frames_in error.before)

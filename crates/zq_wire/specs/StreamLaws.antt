-- Laws of streams of frames.
use Rattle.std.specs.Prelude.{◌≡◌, ℕ, ◌<◌, ◌≤◌, ◌^◌, List, [], ◌∷◌, length, All, Option, Some, None, Result, Ok, Err}
use Rattle.std.specs.List.{flat_map}
use Rattle.zq_wire.specs.declared.fault.StreamFault.{StreamFault}
use Rattle.zq_wire.specs.Framed.{framed}
use Rattle.zq_wire.specs.Stream.{Breaks, Feeds, Frames, Splits, Stops}

-- A text is frames and an unfinished one in one way.
abbrev pub SplitsOnce : Type 0
SplitsOnce =
    (most : ℕ) (bytes rest left : List ℕ) (all others : Frames) → most < 2 ^ 32 →
    Splits most bytes all rest → Splits most bytes others left
    → (all ≡ others) × (rest ≡ left)

-- A text that breaks off breaks off after the same frames.
abbrev pub BreaksOnce : Type 0
BreaksOnce = (most : ℕ) (bytes : List ℕ) (all others : Frames) → most < 2 ^ 32 →
    Breaks most bytes all → Breaks most bytes others → all ≡ others

-- It does not split.
abbrev pub BreaksAlone : Type 0
BreaksAlone = (most : ℕ) (bytes rest : List ℕ) (all others : Frames) → most < 2 ^ 32 →
    Breaks most bytes all → Splits most bytes others rest → ⊥

-- What is written for frames within the most is these frames, and nothing after them.
abbrev pub WrittenSplits : Type 0
WrittenSplits = (most : ℕ) (frames : Frames) → All (λ frame. length frame ≤ most) frames →
    Splits most (flat_map framed frames) frames []

-- a piece and the answer to it
abbrev pub Turn : Type 0
Turn = List ℕ × Result Frames (StreamFault × Frames)

-- Pieces that are fed one after the other, from what a reader has to what it has in the end.
abbrev pub Run : ℕ → Option (List ℕ) → List Turn → Option (List ℕ) → Type 0
Run most had [] last = had ≡ last
Run most had (turn ∷ turns) last = (has : Option (List ℕ)) × Feeds most had turn.0 turn.1 has
    × Run most has turns last

-- the whole text
abbrev pub stream : List Turn → List ℕ
stream turns = flat_map (λ turn. turn.0) turns

-- the frames that an answer hands out
abbrev pub given_by : Result Frames (StreamFault × Frames) → Frames
given_by (Ok frames) = frames
given_by (Err (why, before)) = before

abbrev pub given : List Turn → Frames
given turns = flat_map (λ turn. given_by turn.1) turns

abbrev pub or_else : Option StreamFault → Result Frames (StreamFault × Frames) → Option StreamFault
or_else later (Ok frames) = later
or_else later (Err (why, before)) = Some why

abbrev pub first_fault : List Turn → Option StreamFault
first_fault [] = None
first_fault (turn ∷ turns) = or_else (first_fault turns) turn.1

-- what the whole text gives, with its first fault and what is kept in the end
abbrev pub Gives : ℕ → List ℕ → Frames → Option StreamFault → Option (List ℕ) → Type 0
Gives most bytes frames None (Some rest) = Splits most bytes frames rest
Gives most bytes frames (Some why) None = Stops most bytes why frames
Gives most bytes frames None None = ⊥
Gives most bytes frames (Some why) (Some rest) = ⊥

-- It does not matter how a text is cut into pieces: what they give together is what the text gives.
abbrev pub PiecesGiveTheWhole : Type 0
PiecesGiveTheWhole =
    (most : ℕ) (turns : List Turn) (last : Option (List ℕ)) → Run most (Some []) turns last →
    Gives most (stream turns) (given turns) (first_fault turns) last

-- A frame, as far as it has come, and what more bytes make of it.
use Rattle.std.specs.Prelude.{◌≡◌, ℕ, ◌<◌, ◌≤◌, List, [], ◌++◌, length, take, Option, Some, None, Result, Ok, Err}
use Rattle.std.specs.Int.{to_be_bytes, w32}
use Rattle.zq_wire.specs.declared.fault.StreamFault.{StreamFault}
use Rattle.zq_wire.specs.declared.fault.StreamFault.TheVariants.{TooLong, NoMemory, Over}
use Rattle.zq_wire.specs.declared.unfinished.Unfinished.{Unfinished}
use Rattle.zq_wire.specs.declared.unfinished.Unfinished.TheVariants.{Length, Body}
use Rattle.zq_wire.specs.declared.unfinished.Progress.{Progress}
use Rattle.zq_wire.specs.declared.unfinished.Progress.TheVariants.{More, Whole}
use Rattle.zq_wire.specs.declared.reader.Reader.TheInside.{Inside}
use Rattle.zq_wire.specs.Framed.{IsTooLong, framed}
use Rattle.zq_wire.specs.Stream.{Frames, Reaches, Reading, Stops}

-- the bytes that have come
abbrev pub text_so_far : Unfinished → List ℕ
text_so_far (Length head) = head.items
text_so_far (Body size bytes) = to_be_bytes w32 size ++ bytes.items

abbrev pub Stands : ℕ → Unfinished → Type 0
Stands most (Length head) = length head.items < 4
Stands most (Body size bytes) = (size ≤ most) × (length bytes.items < size)

-- how many of the bytes a step took
abbrev pub IsStep : {X : Type 0} → List ℕ → X × ℕ → Type 0
IsStep bytes x = (0 < x.1) × (x.1 ≤ length bytes)

-- what bytes make of a text so far: more of it, or the whole frame
abbrev pub FrameStep : ℕ → List ℕ → List ℕ → Result (Progress × ℕ) StreamFault → Type 0
FrameStep most text bytes (Ok (More new, taken)) = Stands most new
    × (text_so_far new ≡ text ++ take taken bytes)
FrameStep most text bytes (Ok (Whole frame, taken)) = (length frame.items ≤ most)
    × (framed frame.items ≡ text ++ take taken bytes)
FrameStep most text bytes (Err TooLong) = IsTooLong most (text ++ bytes)
FrameStep most text bytes (Err NoMemory) = Unit {0}
FrameStep most text bytes (Err Over) = ⊥

-- what a length makes
abbrev pub Begins : ℕ → ℕ → Result Progress StreamFault → Type 0
Begins most size (Ok (More new)) = Stands most new × (text_so_far new ≡ to_be_bytes w32 size)
Begins most size (Ok (Whole frame)) = (size ≡ 0) × (frame.items ≡ [])
Begins most size (Err TooLong) = most < size
Begins most size (Err NoMemory) = ⊥
Begins most size (Err Over) = ⊥

-- What a piece gives: the frames up to what is kept, or up to a fault.
abbrev pub PieceGives : ℕ → List ℕ → Result Unfinished StreamFault → Frames → Type 0
PieceGives most bytes (Ok new) frames = Stands most new
    × Reaches most bytes frames (text_so_far new)
PieceGives most bytes (Err e) frames = Stops most bytes e frames

-- ---- the reader's

abbrev pub text_kept : Option Unfinished → Option (List ℕ)
text_kept None = None
text_kept (Some u) = Some (text_so_far u)

abbrev pub reading_of : Inside → Reading
reading_of r = record { most = r.most; had = text_kept r.unfinished }

abbrev StandsIfSome : ℕ → Option Unfinished → Type 0
StandsIfSome most None = Unit {0}
StandsIfSome most (Some u) = Stands most u

abbrev pub IsKept : Inside → Type 0
IsKept r = StandsIfSome r.most r.unfinished

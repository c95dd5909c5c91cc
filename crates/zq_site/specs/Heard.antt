-- What is heard of a peer.

use Rattle.std.specs.Prelude.{Err, List, Ok, Result, [], ℕ, ◌∷◌, ◌≡◌}
use Rattle.zq_site.specs.declared.loss.Loss.{Loss}
use Rattle.zq_site.specs.declared.loss.Loss.TheVariants as loss
use Rattle.zq_wire.specs.Stream.{Frames}
use Rattle.zq_wire.specs.declared.fault.StreamFault.{StreamFault}
use Rattle.zq_wire.specs.declared.fault.StreamFault.TheVariants as fault

-- why a link ends whose reader stops
abbrev pub loss_of : StreamFault → Loss
loss_of fault.TooLong = loss.TooLong
loss_of fault.NoMemory = loss.NoMemory
loss_of fault.Over = loss.Broken

-- the stream itself ended or failed
abbrev pub IsOfStream : Loss → Type 0
IsOfStream loss.Closed = Unit {0}
IsOfStream loss.Broken = Unit {0}
IsOfStream loss.Silent = Unit {0}
IsOfStream loss.TooLong = ⊥
IsOfStream loss.NoMemory = ⊥

-- whether the link goes on after a piece
abbrev pub end_of : Result Frames (StreamFault × Frames) → Result (Unit {0}) Loss
end_of (Ok frames) = Ok tt
end_of (Err (why, before)) = Err (loss_of why)

-- the frames were heard, one after the other, and nothing else
abbrev pub AreHeard : {H : Type 0} → (H → List ℕ → H → Type 0) → H → H → Frames → Type 0
AreHeard hears old new [] = old ≡ new
AreHeard {H} hears old new (frame ∷ frames) = (mid : H) × hears old frame mid
    × AreHeard hears mid new frames

-- What a socket does, step by step.
use Rattle.std.specs.Prelude.{◌≡◌, ◌≤◌, ℕ, List, length, take}
use Rattle.zq_loop.specs.declared.socket.Moved.{Moved}
use Rattle.zq_loop.specs.declared.socket.Moved.TheVariants.{Again, Failed, NotNow, Some}
use Rattle.zq_session.specs.Steps.{Does, Heard, Said}

-- a read: the first of the buffer's bytes were heard, or the socket is as it was
abbrev pub Reads : {S : Type 0} → Does S → S → S → List ℕ → Moved → Type 0
Reads does old new buffer (Some count) = (count ≤ length buffer)
    × does old (Heard (take count buffer)) new
Reads does old new buffer NotNow = new ≡ old
Reads does old new buffer Again = new ≡ old
Reads does old new buffer Failed = new ≡ old

-- a write: the first of the bytes were said, or the socket is as it was
abbrev pub Writes : {S : Type 0} → Does S → S → S → List ℕ → Moved → Type 0
Writes does old new bytes (Some count) = (count ≤ length bytes)
    × does old (Said (take count bytes)) new
Writes does old new bytes NotNow = new ≡ old
Writes does old new bytes Again = new ≡ old
Writes does old new bytes Failed = new ≡ old

-- no bytes were moved
abbrev pub MovesNone : Moved → Type 0
MovesNone (Some count) = ⊥
MovesNone NotNow = Unit {0}
MovesNone Again = Unit {0}
MovesNone Failed = Unit {0}

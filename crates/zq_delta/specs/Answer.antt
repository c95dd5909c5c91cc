-- What a reader returned, seen by view, beside what reading gives.

use Rattle.std.specs.Prelude.{Err, IsOk, Ok, Result, ◌≡◌}
use Rattle.zq_delta.specs.declared.fault.OpFault.{OpFault}
use Rattle.zq_delta.specs.declared.fault.OpFault.TheVariants.{Field, Length, NoMemory, Score, Short, Version}

-- a fault of the bytes, and not want of memory
abbrev pub IsOfBytes : OpFault → Type 0
IsOfBytes NoMemory = ⊥
IsOfBytes Short = Unit {0}
IsOfBytes Version = Unit {0}
IsOfBytes (Field place) = Unit {0}
IsOfBytes Length = Unit {0}
IsOfBytes Score = Unit {0}

-- the value is that of reading, or the fault is that of reading, a fault of the bytes
abbrev pub Gives : {X Y : Type 0} → (X → Y) → Result X OpFault → Result Y OpFault → Type 0
Gives view (Ok x) read = read ≡ Ok (view x)
Gives view (Err fault) read = (read ≡ Err fault) × IsOfBytes fault

-- the value or the fault is that of reading, or there was no memory for the value
abbrev pub Answers : {X Y : Type 0} → (X → Y) → Result X OpFault → Result Y OpFault → Type 0
Answers view (Ok x) read = read ≡ Ok (view x)
Answers view (Err NoMemory) read = IsOk read
Answers view (Err Short) read = read ≡ Err Short
Answers view (Err Version) read = read ≡ Err Version
Answers view (Err (Field place)) read = read ≡ Err (Field place)
Answers view (Err Length) read = read ≡ Err Length
Answers view (Err Score) read = read ≡ Err Score

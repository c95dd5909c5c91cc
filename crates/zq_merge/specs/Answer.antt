-- What a reader returned, seen by view, beside what reading gives.

use Rattle.std.specs.Prelude.{Err, Ok, Result, ◌≡◌, ◌⊎◌}
use Rattle.zq_merge.specs.declared.fault.StateFault.{StateFault}
use Rattle.zq_merge.specs.declared.fault.StateFault.TheVariants.{NoMemory}

-- the value or the fault is that of reading
abbrev pub Gives : {X Y : Type 0} → (X → Y) → Result X StateFault → Result Y StateFault → Type 0
Gives view (Ok x) read = read ≡ Ok (view x)
Gives view (Err fault) read = read ≡ Err fault

-- the fault is that of reading, or there was no memory for what was read
abbrev pub Fails : {Y : Type 0} → StateFault → Result Y StateFault → Type 0
Fails fault read = (fault ≡ NoMemory) ⊎ (read ≡ Err fault)

-- the value or the fault is that of reading, or there was no memory for what was read
abbrev pub Answers : {X Y : Type 0} → (X → Y) → Result X StateFault → Result Y StateFault → Type 0
Answers view (Ok x) read = read ≡ Ok (view x)
Answers view (Err fault) read = Fails fault read

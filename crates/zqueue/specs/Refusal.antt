-- What the program writes and answers where it does not do what it was asked.

use Rattle.std.specs.Io.KnownBytes.{Appends}
use Rattle.std.specs.Prelude.{Err, List, Ok, Option, Result, codes, ℕ, ◌≡◌, ◌⊎◌}
use Rattle.zq_serve.specs.declared.fault.ServeFault.{ServeFault}
use Rattle.zq_serve.specs.declared.fault.ServeFault.TheVariants as fault
use Rattle.zqueue.specs.declared.refusal.Refusal.{Refusal}
use Rattle.zqueue.specs.declared.refusal.Refusal.TheVariants.{Device, Fenced, Memory, Settings, Usage}

abbrev pub line_of : Refusal → List ℕ
line_of Usage = codes "zqueue: usage\n"
line_of Settings = codes "zqueue: settings\n"
line_of Device = codes "zqueue: device\n"
line_of Memory = codes "zqueue: memory\n"
line_of Fenced = codes "zqueue: number\n"

abbrev pub status_of : Refusal → ℕ
status_of Usage = 3
status_of Settings = 3
status_of Device = 4
status_of Memory = 4
status_of Fenced = 5

-- what a writer held before and holds after, and the status, where the refusal was written, or the
-- device failed at that
abbrev pub Refuses : Option (List ℕ) → Option (List ℕ) → Refusal → ℕ → Type 0
Refuses old new refusal status = (Appends old new (line_of refusal) × (status ≡ status_of refusal))
    ⊎ (status ≡ 4)

-- the same of a program that may have done what it was asked: then nothing is written, and the
-- status is 0
abbrev pub Finishes : Option (List ℕ) → Option (List ℕ) → Result (Unit {0}) Refusal → ℕ → Type 0
Finishes old new (Ok done) status = (new ≡ old) × (status ≡ 0)
Finishes old new (Err refusal) status = Refuses old new refusal status

-- the same of a program that served, which wrote of its end itself and has its status
abbrev pub Concludes : Option (List ℕ) → Option (List ℕ) → Result ℕ Refusal → ℕ → Type 0
Concludes old new (Ok status) answered = (new ≡ old) × (answered ≡ status)
Concludes old new (Err refusal) answered = Refuses old new refusal answered

-- the status of a program that served
abbrev pub IsStatusOf : Result (Unit {0}) Refusal → ℕ → Type 0
IsStatusOf (Ok done) status = status ≡ 0
IsStatusOf (Err refusal) status = (status ≡ status_of refusal) ⊎ (status ≡ 4)

-- a file that cannot be read is never wrong settings
abbrev pub IsUnread : Refusal → Type 0
IsUnread refusal = (refusal ≡ Device) ⊎ (refusal ≡ Memory)

-- for how many milliseconds standard output may take nothing as a program ends so
abbrev pub patience_with : Result (Unit {0}) Refusal → ℕ
patience_with (Ok done) = 2000
patience_with (Err Usage) = 2000
patience_with (Err Settings) = 2000
patience_with (Err Device) = 2000
patience_with (Err Memory) = 2000
patience_with (Err Fenced) = 200

-- how the program ends after it served
abbrev pub ended_of : Result (Unit {0}) ServeFault → Result (Unit {0}) Refusal
ended_of (Ok done) = Ok done
ended_of (Err (fault.Device cause)) = Err Device
ended_of (Err fault.NoMemory) = Err Memory
ended_of (Err fault.Fenced) = Err Fenced

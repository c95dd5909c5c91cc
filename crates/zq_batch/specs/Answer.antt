-- What a reader returned, seen by view, beside what reading gives, and where there was no memory.

use Rattle.std.specs.Prelude.{Err, IsOk, List, Ok, Result, ℕ, ◌≡◌, ◌⊎◌}
use Rattle.zq_batch.specs.Reading.{fault_of, front_at}
use Rattle.zq_batch.specs.declared.fault.BatchFault.{BatchFault}
use Rattle.zq_batch.specs.declared.fault.BatchFault.TheVariants.{NoMemory}
use Rattle.zq_fields.specs.declared.fault.PartFault.{PartFault}

-- the value or the fault is that of reading a part
abbrev pub GivesPart : {X Y : Type 0} → (X → Y) → Result X BatchFault → Result Y PartFault → Type 0
GivesPart view (Ok x) read = read ≡ Ok (view x)
GivesPart view (Err fault) read = (part : PartFault) × (read ≡ Err part) × (fault ≡ fault_of part)

-- the same, or there was no memory
abbrev pub AnswersPart : {X Y : Type 0} → (X → Y) → Result X BatchFault → Result Y PartFault → Type 0
AnswersPart view (Ok x) read = read ≡ Ok (view x)
AnswersPart view (Err fault) read =
    (fault ≡ NoMemory) ⊎ ((part : PartFault) × (read ≡ Err part) × (fault ≡ fault_of part))

-- The value or the fault is that of reading, or there was no memory for so many operations of the
-- heap that the bytes begin with.
abbrev pub Answers : {X Y : Type 0} → List ℕ → (X → Y) → Result X BatchFault → Result Y BatchFault →
    Type 0
Answers bytes view (Ok x) read = read ≡ Ok (view x)
Answers bytes view (Err fault) read = ((fault ≡ NoMemory) × IsOk (front_at bytes)) ⊎ (read ≡ Err fault)

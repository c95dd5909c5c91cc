-- What a reader returned, seen by view, beside what reading gives, and where there was no memory
-- for what was read.

use Rattle.std.specs.Int.{w32}
use Rattle.std.specs.Prelude.{Err, IsOk, List, Ok, Result, Some, [], suc, ℕ, ◌<◌, ◌≡◌, ◌⊎◌}
use Rattle.zq_delta.specs.declared.fault.OpFault.TheVariants as op
use Rattle.zq_fields.specs.Fields.{number_field}
use Rattle.zq_links.specs.Reading.{kind_at, more_ops_at, op_in}
use Rattle.zq_links.specs.declared.frame_fault.FrameFault.{FrameFault}
use Rattle.zq_links.specs.declared.frame_fault.FrameFault.TheVariants.{NoMemory, Op, State}
use Rattle.zq_links.specs.declared.kind.Kind as kinds
use Rattle.zq_links.specs.declared.kind.Kind.TheVariants as kind
use Rattle.zq_merge.specs.declared.fault.StateFault.TheVariants as state

-- the value or the fault is that of reading
abbrev pub Gives : {X Y : Type 0} → (X → Y) → Result X FrameFault → Result Y FrameFault → Type 0
Gives view (Ok x) read = read ≡ Ok (view x)
Gives view (Err fault) read = read ≡ Err fault

-- the fault is that of reading, or one of those where there was no memory
abbrev pub Fails : {Y : Type 0} → (FrameFault → Type 0) → FrameFault → Result Y FrameFault → Type 0
Fails Memory fault read = Memory fault ⊎ (read ≡ Err fault)

-- the value or the fault is that of reading, or the fault is one of those where there was no memory
abbrev pub Answers : {X Y : Type 0} → (FrameFault → Type 0) → (X → Y) → Result X FrameFault →
    Result Y FrameFault → Type 0
Answers Memory view (Ok x) read = read ≡ Ok (view x)
Answers Memory view (Err fault) read = Fails Memory fault read

-- ---- where there was no memory

-- for the i-th operation, which the bytes begin with
abbrev pub IsOfMemoryFor : ℕ → List ℕ → FrameFault → Type 0
IsOfMemoryFor i bytes fault = (fault ≡ Op i op.NoMemory) × IsOk (op_in i bytes)

-- for one of so many operations, or for its place in the list: the bytes begin with those up to it
abbrev pub IsOfMemoryAmong : ℕ → List ℕ → FrameFault → Type 0
IsOfMemoryAmong count bytes fault =
    (i : ℕ) × (i < count) × IsOk (more_ops_at (suc i) [] bytes)
    × ((fault ≡ NoMemory) ⊎ (fault ≡ Op i op.NoMemory))

-- the same behind their number
abbrev pub IsOfMemoryInOps : List ℕ → FrameFault → Type 0
IsOfMemoryInOps bytes fault =
    (count : ℕ) × (rest : List ℕ) × (number_field w32 bytes ≡ Some (count, rest))
    × IsOfMemoryAmong count rest fault

-- by the kind, behind which the bytes stand: a Have takes no memory
abbrev pub IsOfMemoryIn : kinds.Kind → List ℕ → FrameFault → Type 0
IsOfMemoryIn (kind.Have v) bytes fault = ⊥
IsOfMemoryIn kind.Ops bytes fault = IsOfMemoryInOps bytes fault
IsOfMemoryIn kind.State bytes fault = fault ≡ State state.NoMemory

-- where these bytes were read
abbrev pub IsOfMemory : List ℕ → FrameFault → Type 0
IsOfMemory bytes fault = (k : kinds.Kind) × (rest : List ℕ) × (kind_at bytes ≡ Ok (k, rest))
    × IsOfMemoryIn k rest fault

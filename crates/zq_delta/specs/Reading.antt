-- Reading an operation at the front of the bytes, with the first fault that is met.

use Rattle.std.specs.Option.{ok_or}
use Rattle.std.specs.Prelude.{Err, List, Ok, Result, length, ℕ, ◌-◌}
use Rattle.zq_delta.specs.Fields.{fields_at}
use Rattle.zq_delta.specs.Version.{version_of}
use Rattle.zq_delta.specs.declared.fault.OpFault.{OpFault}
use Rattle.zq_delta.specs.declared.fault.OpFault.TheVariants as op
use Rattle.zq_delta.specs.declared.version.Version as version
use Rattle.zq_dots.specs.Placed.{Placed}
use Rattle.zq_fields.specs.Fields.{byte_field}
use Rattle.zq_fields.specs.declared.fault.PartFault.{PartFault}
use Rattle.zq_fields.specs.declared.fault.PartFault.TheVariants.{Field, Length, Score, Short}

infixl 10 ◌>>=◌
abbrev pub ◌>>=◌ : {X Y : Type 0} → Result X OpFault → (X → Result Y OpFault) → Result Y OpFault
(Ok x) >>= f = f x
(Err fault) >>= f = Err fault

-- the fault of a part is the operation's
abbrev pub fault_of : PartFault → OpFault
fault_of Short = op.Short
fault_of (Field place) = op.Field place
fault_of Length = op.Length
fault_of Score = op.Score

abbrev pub of_part : {X : Type 0} → Result X PartFault → Result X OpFault
of_part (Ok x) = Ok x
of_part (Err fault) = Err (fault_of fault)

abbrev pub version_at : List ℕ → Result (version.Version × List ℕ) OpFault
version_at bytes = do
  b ← ok_or (byte_field bytes) op.Short
  v ← ok_or (version_of b.0) op.Version
  Ok (v, b.1)

-- an operation at the front, and the bytes after it
unfoldable pub op_at : List ℕ → Result (Placed × List ℕ) OpFault
op_at bytes = do
  v ← version_at bytes
  of_part (fields_at v.0 (length bytes) v.1)

-- an operation at the front, and how many bytes it takes
abbrev pub found_at : List ℕ → Result (Placed × ℕ) OpFault
found_at bytes = op_at bytes >>= λ o. Ok (o.0, length bytes - length o.1)

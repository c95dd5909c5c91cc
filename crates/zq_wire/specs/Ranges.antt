-- The versions of a greeting, and the form that they are told in.

use Rattle.std.specs.Prelude.{Err, List, None, Ok, Option, Result, Some, if◌then◌else◌, min, nat_le, nat_lt, ℕ, ◌&&◌, ◌==◌, ◌≤◌}
use Rattle.zq_wire.specs.Steps.{byte_at, ◌>>=◌}
use Rattle.zq_wire.specs.declared.form.Form.{Form}
use Rattle.zq_wire.specs.declared.form.Form.TheVariants.{New, Old}
use Rattle.zq_wire.specs.declared.refusal.Refusal.TheVariants as refusal
use Rattle.zq_wire.specs.declared.stop.Stop.{Stop}
use Rattle.zq_wire.specs.declared.stop.Stop.TheVariants.{Refused}
use Rattle.zq_wire.specs.declared.versions.Versions.{Versions}

-- a range of one version
abbrev pub only : ℕ → Versions
only version = record { lowest = version; highest = version }

-- the least of the two highest versions
abbrev pub least_highest : Versions → Versions → ℕ
least_highest own heard = min own.highest heard.highest

-- the greatest version that this range and one that was heard have, where that begins above 0
abbrev pub agreed : Versions → Versions → Option ℕ
agreed own heard = if nat_lt 0 heard.lowest && nat_le heard.lowest (least_highest own heard)
    && nat_le own.lowest (least_highest own heard) then Some (least_highest own heard) else None

abbrev pub agreed_or : Versions → Versions → Option ℕ → Result ℕ Stop
agreed_or own heard None = Err (Refused (refusal.Version heard own))
agreed_or own heard (Some version) = Ok version

abbrev pub agreed_at : Versions → Versions → Result ℕ Stop
agreed_at own heard = agreed_or own heard (agreed own heard)

-- the form that is expected, and the one that was heard
abbrev pub same_form : Form → Form → Result (Unit {0}) Stop
same_form Old Old = Ok tt
same_form New New = Ok tt
same_form Old New = Err (Refused (refusal.Form New))
same_form New Old = Err (Refused (refusal.Form Old))

-- a range in the new form, and what follows
unfoldable pub new_at : Versions → Form → List ℕ → Result (ℕ × List ℕ) Stop
new_at own form bytes = do
  lowest ← byte_at bytes
  highest ← byte_at lowest.1
  version ← agreed_at own (record { lowest = lowest.0; highest = highest.0 })
  same ← same_form form New
  Ok (version, highest.1)

-- the version 1 of the old form
abbrev pub old_at : Versions → Form → Result ℕ Stop
old_at own form = do
  version ← agreed_at own (only 1)
  same ← same_form form Old
  Ok version

-- the greatest version that both speak, behind the byte that says which form follows, and what
-- follows
unfoldable pub version_at : Versions → Form → List ℕ → Result (ℕ × List ℕ) Stop
version_at own form bytes = do
  mark ← byte_at bytes
  if mark.0 == 0 then new_at own form mark.1 else (
      if mark.0 == 1 then (old_at own form >>= λ version. Ok (version, mark.1))
      else Err (Refused (refusal.Version (only mark.0) own)))

-- ---- what the range says

-- a version that a range has
pub record Speaks (range : Versions) (version : ℕ) : Type 0 where
  pub from_lowest : range.lowest ≤ version
  pub to_highest : version ≤ range.highest

-- the greatest version that both ranges have
pub record IsGreatestCommon (own other : Versions) (version : ℕ) : Type 0 where
  pub own_speaks : Speaks own version
  pub other_speaks : Speaks other version
  pub greatest : (v : ℕ) → Speaks own v → Speaks other v → v ≤ version

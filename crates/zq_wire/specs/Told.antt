-- What a greeting in the new form tells of a run.

use Rattle.std.specs.Int.{from_be_bytes, to_be_bytes, w64}
use Rattle.std.specs.Prelude.{List, None, Ok, Option, Result, Some, [], flat_map, length, option_map, suc, take, unwrap_or, zero, ℕ, ◌*◌, ◌∷◌, ◌≡◌}
use Rattle.zq_fields.specs.Fields.{number_field}
use Rattle.zq_wire.specs.Ranges.{only}
use Rattle.zq_wire.specs.Steps.{bytes_at, ◌>>=◌}
use Rattle.zq_wire.specs.declared.form.Form.{Form}
use Rattle.zq_wire.specs.declared.form.Form.TheVariants.{New, Old}
use Rattle.zq_wire.specs.declared.run.Run.{Run}
use Rattle.zq_wire.specs.declared.side.Side.{Side}
use Rattle.zq_wire.specs.declared.stop.Stop.{Stop}
use Rattle.zq_wire.specs.declared.versions.Versions.{Versions}

-- a range of versions; and of a run its name, the number of its start and its counters, as bytes
pub record Told : Type 0 where
  pub versions : Versions
  pub name : List ℕ
  pub start : List ℕ
  pub counters : List ℕ

-- 16 bytes, eight bytes, and eight bytes for each heap
pub record IsTold (heaps : ℕ) (told : Told) : Type 0 where
  pub name_long : length told.name ≡ 16
  pub start_long : length told.start ≡ 8
  pub counters_long : length told.counters ≡ 8 * heaps

-- the same, where the greeting is in the new form
abbrev pub IsToldIfNew : ℕ → Option Told → Type 0
IsToldIfNew heaps None = Unit {0}
IsToldIfNew heaps (Some told) = IsTold heaps told

-- in the old form nothing of this is told
abbrev pub form_of : Option Told → Form
form_of None = Old
form_of (Some told) = New

-- the old form is the range 1 to 1
abbrev pub versions_of : Option Told → Versions
versions_of None = only 1
versions_of (Some told) = told.versions

-- what a side tells in this form, with 16 counters at most
abbrev pub told_in : Form → Side → Option Told
told_in Old side = None
told_in New side = Some (record {
  versions = side.versions;
  name = side.run;
  start = to_be_bytes w64 side.start;
  counters = flat_map (to_be_bytes w64) (take 16 side.counters.now);
})

-- the number of eight bytes at the front and what follows, or 0 where there are too few
abbrev pub next_number_in : List ℕ → ℕ × List ℕ
next_number_in bytes = unwrap_or (number_field w64 bytes) (0, bytes)

-- so many numbers of eight bytes, and 0 where there are no more
unfoldable pub numbers : ℕ → List ℕ → List ℕ
numbers zero bytes = []
numbers (suc n) bytes = (next_number_in bytes).0 ∷ numbers n (next_number_in bytes).1

-- the run that these bytes tell of
abbrev pub run_told : List ℕ → List ℕ → List ℕ → Run
run_told name start counters = record {
  name = name;
  start = from_be_bytes w64 start;
  counters = numbers 16 counters;
}

abbrev pub run_of : Option Told → Option Run
run_of told = option_map (λ told. run_told told.name told.start told.counters) told

-- what is told of a run in this form by a site with so many heaps, and what follows
unfoldable pub run_at : Form → ℕ → List ℕ → Result (Option Run × List ℕ) Stop
run_at Old heaps bytes = Ok (None, bytes)
run_at New heaps bytes = do
  name ← bytes_at 16 bytes
  start ← bytes_at 8 name.1
  counters ← bytes_at (8 * heaps) start.1
  Ok (Some (run_told name.0 start.0 counters.0), counters.1)

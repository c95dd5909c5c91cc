-- The event that numbers and bytes note.

use Rattle.std.specs.Prelude.{List, slice_index, ℕ, ◌==◌}
use Rattle.zq_wal_file.specs.Events.{Event}

abbrev pub event_of : List ℕ → List ℕ → Event
event_of numbers bytes =
    (slice_index numbers 0, slice_index numbers 1, slice_index numbers 2 == 1, bytes)

-- How long some things took.

use Rattle.std.specs.Prelude.{replicate, slice_index, slice_set, ℕ, ◌<◌, ◌≡◌, ◌≤◌}
use Rattle.zq_metrics.specs.Timing.{both, bounds}
use Rattle.zq_metrics.specs.declared.timing.Durations.{Durations}

abbrev pub none : Durations
none = record { buckets = replicate 16 0; nanoseconds = 0 }

-- the place of the first bound that is not below so many nanoseconds, or that behind all bounds
pub record IsSort (nanoseconds place : ℕ) : Type 0 where
  pub within : place < 16
  pub above : (other : ℕ) → other < place → slice_index bounds other < nanoseconds
  pub below : place < 15 → nanoseconds ≤ slice_index bounds place

-- one thing more was counted, which took so many nanoseconds
pub record IsAdded (nanoseconds : ℕ) (old new : Durations) : Type 0 where
  pub place : ℕ
  pub sort : IsSort nanoseconds place
  pub buckets : new.buckets ≡ slice_set old.buckets place (both (slice_index old.buckets place) 1)
  pub sum : new.nanoseconds ≡ both old.nanoseconds nanoseconds

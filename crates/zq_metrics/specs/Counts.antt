-- What was counted.

use Rattle.std.specs.Prelude.{List, length, replicate, slice_index, ℕ, ◌<◌, ◌≡◌}
use Rattle.zq_metrics.specs.Commands.{place_of}
use Rattle.zq_metrics.specs.Timing.{both}
use Rattle.zq_metrics.specs.declared.command.Command.{Command}
use Rattle.zq_metrics.specs.declared.counts.Counts.{Counts}

abbrev pub none : Counts
none = record {
  answered = replicate 14 0;
  errors = replicate 14 0;
  buckets = replicate 16 0;
  nanoseconds = 0;
}

abbrev pub answered_of : Counts → Command → ℕ
answered_of counts command = slice_index counts.answered (place_of command)

abbrev pub errors_of : Counts → Command → ℕ
errors_of counts command = slice_index counts.errors (place_of command)

-- at each place there are both counts together
pub record AreAddedEach (one other sums : List ℕ) : Type 0 where
  pub lengths : length sums ≡ length one
  pub each : (place : ℕ) → place < length one →
      slice_index sums place ≡ both (slice_index one place) (slice_index other place)

pub record AreAdded (one other sums : Counts) : Type 0 where
  pub answered : AreAddedEach one.answered other.answered sums.answered
  pub errors : AreAddedEach one.errors other.errors sums.errors
  pub buckets : AreAddedEach one.buckets other.buckets sums.buckets
  pub nanoseconds : sums.nanoseconds ≡ both one.nanoseconds other.nanoseconds

use Rattle.std.proofs.Common.{ℕ, slice_index, ◌<◌}
use Rattle.zq_metrics.specs.Timing.{bounds}
use Rattle.zq_metrics.proofs.timing.bucket_of.Given as goal

abbrev pub invariant-loop-place : goal.invariant-loop-place
invariant-loop-place l = (k : ℕ) → k < l.place → slice_index bounds k < l.nanoseconds

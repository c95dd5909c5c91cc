use Rattle.std.proofs.Common.{ℕ, slice_index, ◌<◌, ◌≡◌, ◌≤◌}
use Rattle.zq_metrics.specs.Timing.{both}
use Rattle.zq_metrics.proofs.counts.add_each.Given as goal

abbrev pub invariant-loop-place : goal.invariant-loop-place
invariant-loop-place l =
    ((k : ℕ) → k < l.place → slice_index l.to k ≡ both (slice_index l.initial.to k) (slice_index l.from k))
    × ((k : ℕ) → l.place ≤ k → slice_index l.to k ≡ slice_index l.initial.to k)

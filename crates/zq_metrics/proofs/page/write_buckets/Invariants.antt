use Rattle.std.proofs.Common.{◌++◌, ◌≡◌}
use Rattle.std.specs.String.{string_bytes}
use Rattle.zq_metrics.specs.Page as wanted
use Rattle.zq_metrics.proofs.page.write_buckets.Given as goal

abbrev pub invariant-loop-place : goal.invariant-loop-place
invariant-loop-place l =
    (string_bytes l.out ≡ string_bytes l.initial.out ++ wanted.buckets_before l.metric l.buckets l.place)
    × (l.sum ≡ wanted.sum_before l.buckets l.place)

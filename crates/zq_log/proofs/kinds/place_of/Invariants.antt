use Rattle.std.proofs.Common.{get_or, ℕ, ◌<◌}
use Rattle.std.specs.Prelude.{◌≢◌}
use Rattle.zq_log.specs.declared.kinds.Kind.{Kind}
use Rattle.zq_log.proofs.kinds.place_of.Given as goal

abbrev pub invariant-loop-place : goal.invariant-loop-place
invariant-loop-place l = (k : ℕ) (d : Kind) → k < l.place → (get_or l.known k d).words.items ≢ l.kind

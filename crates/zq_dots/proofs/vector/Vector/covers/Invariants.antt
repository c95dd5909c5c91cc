use Rattle.std.proofs.Common.{ℕ, get_or, ◌<◌, ◌≤◌}
use Rattle.zq_dots.proofs.vector.Vector.covers.Given as goal

abbrev pub invariant-loop-site : goal.invariant-loop-site
invariant-loop-site l = (t : ℕ) → t < l.site → get_or l.other-inside.counters t 0 ≤ get_or l.self-inside.counters t 0

use Rattle.std.proofs.Common.{ℕ, get_or, length, ◌<◌, ◌≡◌, ◌≤◌}
use Rattle.std.specs.Prelude.{max}
use Rattle.zq_model.specs.Sets.{SITES}
use Rattle.zq_dots.proofs.vector.Vector.join_with.Given as goal

abbrev pub invariant-loop-site : goal.invariant-loop-site
invariant-loop-site l = record {
  wide : length l.self-inside.counters ≡ SITES;
  joined : (t : ℕ) → t < l.site → get_or l.self-inside.counters t 0 ≡ max (get_or l.initial.self-inside.counters t 0) (get_or l.other-inside.counters t 0);
  rest : (t : ℕ) → l.site ≤ t → get_or l.self-inside.counters t 0 ≡ get_or l.initial.self-inside.counters t 0;
}

use Rattle.std.proofs.Common.{◌≡◌, ◌≤◌}
use Rattle.zq_tally.specs.Words.{id_of, total_table, total_of, kept_of, passes_of, AreOf}
use Rattle.zq_tally.proofs.tests.walk.Given as goal

abbrev pub invariant-loop-pass : goal.invariant-loop-pass
invariant-loop-pass l =
    (total_table l.total ≡ id_of l.tally) × AreOf (id_of l.tally) l.counts × (total_of l.total ≤ l.pass-index)
    × (kept_of l.total ≡ kept_of l.initial.total) × (passes_of l.total ≡ passes_of l.initial.total)

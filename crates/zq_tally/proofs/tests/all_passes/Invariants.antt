use Rattle.std.proofs.Common.{◌≡◌, ◌+◌, ◌-◌, ◌≤◌, [], vec_len, vec_capacity}
use Rattle.zq_tally.specs.Words.{id_of, total_table, total_of, kept_of, passes_of, AreOf}
use Rattle.zq_tally.proofs.tests.all_passes.Given as goal

abbrev pub invariant-loop-counts : goal.invariant-loop-counts
invariant-loop-counts l =
    (total_table l.total ≡ id_of l.tally) × AreOf (id_of l.tally) l.counts.items × (kept_of l.total + vec_len l.counts ≡ 129)
    × (vec_len l.counts ≤ 128) × (128 ≤ vec_capacity l.counts) × (passes_of l.total ≡ []) × (total_of l.total ≡ 0)

abbrev pub decreases-loop-counts : goal.decreases-loop-counts
decreases-loop-counts l = 128 - vec_len l.counts

use Rattle.std.proofs.Common.{◌+◌, ◌≡◌}
use Rattle.zq_spread.proofs.Places.{AllSoFar}
use Rattle.zq_spread.proofs.building.deal_counts.Given as goal
use Rattle.zq_spread.specs.SiteBuilders.{IsCounted}
use Rattle.zq_tally.specs.Words.{kept_of, passes_of, total_of, total_table}

abbrev pub invariant-loop-pass : goal.invariant-loop-pass
invariant-loop-pass l = record {
  table : total_table l.total ≡ total_table l.initial.total;
  total : total_of l.total ≡ total_of l.initial.total;
  passes : passes_of l.total ≡ passes_of l.initial.total;
  kept : kept_of l.total + l.pass-index ≡ kept_of l.initial.total;
  dealt : AllSoFar (IsCounted l.tally l.heap) l.pass-index l.initial.pass-items l.pass-items;
}

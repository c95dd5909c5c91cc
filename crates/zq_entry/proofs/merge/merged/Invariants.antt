use Rattle.std.proofs.Common.{drop, length, ◌+◌, ◌++◌, ◌≡◌}
use Rattle.zq_model.specs.Entry.{join_site}
use Rattle.zq_model.specs.Sets.{SITES}
use Rattle.zq_model.specs.Sparse.{AreBySite}
use Rattle.zq_entry.proofs.MergeLemmas.{merged}
use Rattle.zq_entry.proofs.merge.merged.Given as goal

abbrev pub invariant-loop-site : goal.invariant-loop-site
invariant-loop-site l = record {
  joined : l.merged ++ merged (join_site l.mine l.theirs) (drop l.my_place l.my_additions) (drop l.their_place l.their_additions) ≡ merged (join_site l.mine l.theirs) l.my_additions l.their_additions;
  mine : AreBySite 0 SITES (drop l.my_place l.my_additions);
  theirs : AreBySite 0 SITES (drop l.their_place l.their_additions);
}

abbrev pub decreases-loop-site : goal.decreases-loop-site
decreases-loop-site l = length (drop l.my_place l.my_additions) + length (drop l.their_place l.their_additions)

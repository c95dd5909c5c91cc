use Rattle.std.proofs.Common.{take, ◌*◌, ◌≡◌}
use Rattle.zq_model.specs.Operation.{IsWithin}
use Rattle.zq_entry.specs.Sums.{MOST_SUM}
use Rattle.zq_entry.proofs.SumLemmas.{total_of}
use Rattle.zq_entry.proofs.sums.total.Given as goal

abbrev pub invariant-loop-sum : goal.invariant-loop-sum
invariant-loop-sum l = record {
  value : l.total ≡ total_of (take l.sum-index l.sums);
  within : IsWithin (l.sum-index * MOST_SUM) l.total;
}

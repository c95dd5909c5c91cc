use Rattle.std.proofs.Common.{arith, subst, sym, ℕ, ℤ}
use Rattle.zq_entry.proofs.SumLemmas.{sum-within}
use Rattle.zq_entry.specs.Sums.{MOST_SUM}
use Rattle.zq_model.specs.Operation.{IsWithin}
use Rattle.zq_merge.proofs.write.write_each_sum.Goals as goal

pub write_sum-requires : goal.write_sum-requires
write_sum-requires c =
    let P : ℕ × ℤ → Type 0 = λ p. IsWithin MOST_SUM p.1 in
    subst P (sym c.item-item.is) (sum-within c.args.sums.now c.loop-item.item-index c.item-item.result c.requires.each (omega arith))

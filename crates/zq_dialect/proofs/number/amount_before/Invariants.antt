use Rattle.std.proofs.Common.{min, ◌++◌, ◌-◌, ◌^◌, ◌≡◌}
use Rattle.zq_dialect.specs.Numbers.{amount_at}
use Rattle.zq_dialect.proofs.number.amount_before.Given as goal

abbrev pub invariant-loop-place : goal.invariant-loop-place
invariant-loop-place l = l.amount ≡ min (amount_at (l.whole ++ l.fraction) l.place) (2 ^ 64 - 1)

use Rattle.std.proofs.Common.{arith, ℕ, ◌<◌, ◌≤◌, ◌^◌}
use Rattle.std.proofs.Math.Nat.{pow-le-pow_right}
use Rattle.zq_words.proofs.number.plain_amount.Goals as goal

-- a number of fewer than 18 digits
fewer : (n k : ℕ) → n < 10 ^ k → k < 18 → n < 10 ^ 17
fewer n k below few = let most : 10 ^ k ≤ 10 ^ 17 = pow-le-pow_right {n = 10} (omega arith) {i = k} {j = 17} (omega arith) in omega arith

pub overflow_mul-amount : goal.overflow_mul-amount
overflow_mul-amount c = omega (arith, fewer _ _ c.loop-digit.invariant.1.1 (omega arith))

pub overflow_add-amount : goal.overflow_add-amount
overflow_add-amount c = omega (arith, fewer _ _ c.loop-digit.invariant.1.1 (omega arith))

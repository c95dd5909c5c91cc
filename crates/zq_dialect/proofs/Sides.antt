-- Whole numbers on either side of a bound, and their multiples.

use Rattle.std.proofs.Common.{Bool, arith, false, int_lt, mul-le-mul_right, negsuc, not, pos, refl, subst, suc, suc-mul, sym, true, ℕ, ℤ, ◌*ℤ◌, ◌*◌, ◌+ℤ◌, ◌+◌, ◌<ℤ◌, ◌<◌, ◌≡◌, ◌≤ℤ◌, ◌≤◌, ◌↔◌, T, ◌⊎◌, inl, inr}
use Rattle.std.proofs.lemmas.Int.{ints}
use Rattle.std.specs.Int.Signed.{lt_z_no, lt_z_yes}
use Rattle.zq_dialect.specs.Laws.{IsInside}

-- multiples lie in the order of their numbers, and apart by that of one
apart : (x y : ℤ) (k : ℕ) → x <ℤ y → (x *ℤ pos k +ℤ pos k) ≤ℤ (y *ℤ pos k)
apart (pos a) (pos b) k h =
    let most : suc a * k ≤ b * k = mul-le-mul_right k (omega (arith, ints, h)) in
    let more : suc a * k ≡ a * k + k = suc-mul a k in
    omega (arith, ints, most, more)
apart (pos a) (negsuc b) k h = absurd (omega (arith, ints, h))
apart (negsuc a) (pos b) k h =
    let more : suc a * k ≡ a * k + k = suc-mul a k in
    omega (arith, ints, more)
apart (negsuc a) (negsuc b) k h =
    let most : suc b * k ≤ a * k = mul-le-mul_right k (omega (arith, ints, h)) in
    let more : suc a * k ≡ a * k + k = suc-mul a k in
    omega (arith, ints, most, more)

either : (x y : ℤ) → (x <ℤ y) ⊎ (y ≤ℤ x)
either x y = by (int_lt x y) refl
  where
    by : (b : Bool) → int_lt x y ≡ b → (x <ℤ y) ⊎ (y ≤ℤ x)
    by true e = inl (lt_z_yes (subst T (sym e) tt))
    by false e = inr (lt_z_no (subst (λ b. T (not b)) (sym e) tt))

grows : (x y : ℤ) (k : ℕ) → x ≤ℤ y → (x *ℤ pos k) ≤ℤ (y *ℤ pos k)
grows x y k h = by (either x y)
  where
    by : (x <ℤ y) ⊎ (y ≤ℤ x) → (x *ℤ pos k) ≤ℤ (y *ℤ pos k)
    by (inl under) = let gap : (x *ℤ pos k +ℤ pos k) ≤ℤ (y *ℤ pos k) = apart x y k under in omega (arith, ints, gap)
    by (inr more) = let same : x ≡ y = omega (arith, ints, h, more) in rw same (omega (arith, ints))

-- of two numbers and of their multiples the same is the lesser
pub at_most : (x y : ℤ) (k : ℕ) → 0 < k → (x ≤ℤ y) ↔ ((x *ℤ pos k) ≤ℤ (y *ℤ pos k))
at_most x y k some = (grows x y k, back)
  where
    back : (x *ℤ pos k) ≤ℤ (y *ℤ pos k) → x ≤ℤ y
    back h = by (either y x)
      where
        by : (y <ℤ x) ⊎ (x ≤ℤ y) → x ≤ℤ y
        by (inl under) = let gap : (y *ℤ pos k +ℤ pos k) ≤ℤ (x *ℤ pos k) = apart y x k under in absurd (omega (arith, ints, gap, h, some))
        by (inr more) = more

pub less : (x y : ℤ) (k : ℕ) → 0 < k → (x <ℤ y) ↔ ((x *ℤ pos k) <ℤ (y *ℤ pos k))
less x y k some = (there, back)
  where
    there : x <ℤ y → (x *ℤ pos k) <ℤ (y *ℤ pos k)
    there h = let gap : (x *ℤ pos k +ℤ pos k) ≤ℤ (y *ℤ pos k) = apart x y k h in omega (arith, ints, gap, some)

    back : (x *ℤ pos k) <ℤ (y *ℤ pos k) → x <ℤ y
    back h = by (either x y)
      where
        by : (x <ℤ y) ⊎ (y ≤ℤ x) → x <ℤ y
        by (inl more) = more
        by (inr most) = let far : (y *ℤ pos k) ≤ℤ (x *ℤ pos k) = grows y x k most in absurd (omega (arith, ints, far, h))

-- a bound that is a whole number
pub whole_inside : (is_least is_out : Bool) (bound z : ℤ) (k : ℕ) → 0 < k →
    IsInside is_least is_out bound z ↔ IsInside is_least is_out (bound *ℤ pos k) (z *ℤ pos k)
whole_inside true true bound z k some = less bound z k some
whole_inside true false bound z k some = at_most bound z k some
whole_inside false true bound z k some = less z bound k some
whole_inside false false bound z k some = at_most z bound k some

-- a bound that lies between two whole numbers
pub between_least : (is_out : Bool) (bound z number : ℤ) (k : ℕ) → number <ℤ (bound *ℤ pos k) → (bound *ℤ pos k) <ℤ (number +ℤ pos k) →
    (bound ≤ℤ z) ↔ IsInside true is_out number (z *ℤ pos k)
between_least is_out bound z number k low high = (there is_out, back is_out)
  where
    there : (is_out : Bool) → bound ≤ℤ z → IsInside true is_out number (z *ℤ pos k)
    there true h = let far : (bound *ℤ pos k) ≤ℤ (z *ℤ pos k) = grows bound z k h in omega (arith, ints, far, low)
    there false h = let far : (bound *ℤ pos k) ≤ℤ (z *ℤ pos k) = grows bound z k h in omega (arith, ints, far, low)

    near : number ≤ℤ (z *ℤ pos k) → bound ≤ℤ z
    near h = by (either z bound)
      where
        by : (z <ℤ bound) ⊎ (bound ≤ℤ z) → bound ≤ℤ z
        by (inl under) = let gap : (z *ℤ pos k +ℤ pos k) ≤ℤ (bound *ℤ pos k) = apart z bound k under in absurd (omega (arith, ints, gap, high, h))
        by (inr more) = more

    back : (is_out : Bool) → IsInside true is_out number (z *ℤ pos k) → bound ≤ℤ z
    back true h = near (omega (arith, ints, h))
    back false h = near h

pub between_greatest : (is_out : Bool) (bound z number : ℤ) (k : ℕ) → (bound *ℤ pos k) <ℤ number → number <ℤ (bound *ℤ pos k +ℤ pos k) →
    (z ≤ℤ bound) ↔ IsInside false is_out number (z *ℤ pos k)
between_greatest is_out bound z number k low high = (there is_out, back is_out)
  where
    there : (is_out : Bool) → z ≤ℤ bound → IsInside false is_out number (z *ℤ pos k)
    there true h = let far : (z *ℤ pos k) ≤ℤ (bound *ℤ pos k) = grows z bound k h in omega (arith, ints, far, low)
    there false h = let far : (z *ℤ pos k) ≤ℤ (bound *ℤ pos k) = grows z bound k h in omega (arith, ints, far, low)

    near : (z *ℤ pos k) ≤ℤ number → z ≤ℤ bound
    near h = by (either bound z)
      where
        by : (bound <ℤ z) ⊎ (z ≤ℤ bound) → z ≤ℤ bound
        by (inl under) = let gap : (bound *ℤ pos k +ℤ pos k) ≤ℤ (z *ℤ pos k) = apart bound z k under in absurd (omega (arith, ints, gap, high, h))
        by (inr more) = more

    back : (is_out : Bool) → IsInside false is_out number (z *ℤ pos k) → z ≤ℤ bound
    back true h = near (omega (arith, ints, h))
    back false h = near h

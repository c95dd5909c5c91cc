-- What is near two scores tells which of them is lower.
use mir.Val.{SFits, of_z, to_z}
use Rattle.std.specs.Cmp.{int_ranks}
use Rattle.std.specs.Cmp.Lexicographic.{slice_cmp}
use Rattle.std.specs.Int.{w64}
use Rattle.std.specs.Ordering.{MatchOrdering, int_cmp, is_lt, nat_cmp, ordering_then}
use Rattle.std.specs.Prelude.{Bool, false, int_lt, true, ℤ, ◌<ℤ◌, ◌≡◌, ◌≢◌}
use Rattle.std.specs.declared.cmp.Ordering.TheVariants.{Equal, Greater, Less}
use Rattle.std.proofs.Common.{ap, arith, refl, subst, sym, ◌∙◌}
use Rattle.std.proofs.lemmas.Int.{clamps, ints, to_z-of_z}
use Rattle.zq_posheap.proofs.Lists.{behind}
use Rattle.zq_posheap.proofs.Scored.{pair_there}
use Rattle.zq_posheap.specs.Moves.{IsKnown, pair_at}
use Rattle.zq_posheap.specs.Order.{Scored, near, scored_cmp}
use Rattle.zq_posheap.specs.declared.heap.Heap.{Heap}
use Rattle.zq_posheap.specs.declared.heap.Slot.{Slot}
use Rattle.indexmap.specs.IndexMap.{values}

near_fits : (score : ℤ) → SFits w64 (near score)
near_fits score = omega (arith, ints, clamps)

-- what is lower is told so
less : (a b : ℤ) → a <ℤ b → int_lt a b ≡ true
less a b lower = by (int_lt a b) refl
  where
    by : (t : Bool) → int_lt a b ≡ t → int_lt a b ≡ true
    by true e = e
    by false e = absurd (omega (arith, ints))

not_less : (a b : ℤ) → b <ℤ a → int_lt a b ≡ false
not_less a b lower = by (int_lt a b) refl
  where
    by : (t : Bool) → int_lt a b ≡ t → int_lt a b ≡ false
    by true e = absurd (omega (arith, ints))
    by false e = e

lower_near : (a b : ℤ) → a <ℤ b → near a ≢ near b → near a <ℤ near b
lower_near a b lower apart = omega (arith, ints, clamps, lower, apart)

-- pairs whose scores are near different numbers are ordered as these
near_tells : (x y : Scored) → near x.0 ≢ near y.0 → int_lt (near x.0) (near y.0) ≡ is_lt (scored_cmp x y)
near_tells x y apart =
    elim (int_cmp x.0 y.0) as (λ r. MatchOrdering r (x.0 <ℤ y.0) (x.0 ≡ y.0) (y.0 <ℤ x.0) → int_lt (near x.0) (near y.0) ≡ is_lt (ordering_then r (slice_cmp nat_cmp x.1 y.1))) [
      | Less ↦ λ lower. less (near x.0) (near y.0) (lower_near x.0 y.0 lower apart)
      | Equal ↦ λ same. absurd (apart (ap near same))
      | Greater ↦ λ lower. not_less (near x.0) (near y.0) (lower_near y.0 x.0 lower (λ e. apart (sym e)))
    ] (int_ranks x.0 y.0)

-- what a new slot has of a score
pub noted : (score nearest : ℤ) → nearest ≡ near score → to_z w64 (of_z w64 nearest) ≡ near score
noted score nearest is = to_z-of_z w64 nearest (subst (SFits w64) (sym is) (near_fits score)) ∙ is

module _ {V : Type 0} (heap : Heap V) where
  -- what a slot that is known has of the score of its member
  pub near_pair : (s : Slot) → IsKnown heap s → near (pair_at heap s.index).0 ≡ s.near
  near_pair s known =
      let w = behind (λ w. near w.score) (values heap.members) s.index s.near known in
      let e = behind (λ e. e.1) heap.members.entries s.index w.0 w.1 in
      ap (λ pair. near pair.0) (pair_there heap.members.entries s.index e.0 e.1) ∙ ap (λ v. near v.score) e.2 ∙ w.2

  -- it is a number of 64 bits
  pub near_again : (s : Slot) → IsKnown heap s → to_z w64 (of_z w64 s.near) ≡ s.near
  near_again s known = to_z-of_z w64 s.near (subst (SFits w64) (near_pair s known) (near_fits (pair_at heap s.index).0))

  -- where two of them differ, they tell which member goes first
  pub slots_tell : (x y : Slot) → IsKnown heap x → IsKnown heap y → x.near ≢ y.near → int_lt x.near y.near ≡ is_lt (scored_cmp (pair_at heap x.index) (pair_at heap y.index))
  slots_tell x y x_known y_known apart =
      let of_x = near_pair x x_known in
      let of_y = near_pair y y_known in
      (λ k. int_lt (sym of_x k) (sym of_y k)) ∙ near_tells (pair_at heap x.index) (pair_at heap y.index) (λ e. apart (sym of_x ∙ e ∙ of_y))

-- The rule after views were split and joined, and what it says of one view.
use Rattle.std.proofs.Common.{◌≡◌, ℕ, ◌+◌, ◌≤◌, Option, Some, None, List, [], ◌∷◌, ◌++◌, length, set, refl, arith}
use Rattle.std.specs.Prelude.{sum, sum_by}
use mathlib.Core.Option.{some}
use lib.ListN.{get_elem?}
use Rattle.zq_tally.specs.declared.view.View.{View}
use Rattle.zq_tally.specs.Limits.{ALL_PARTS}
use Rattle.zq_tally.specs.Views.{nothing, parts, steps, totals, total, one_of, value_of}
use Rattle.zq_tally.specs.Rule.{AreTallied}
use Rattle.zq_tally.proofs.Sums.{sum_by-replace, sum_by-split, sum_by-join, sum_by-nothing}

-- a view is split without loss: what the total gains, the steps gain
pub splits_evenly : (views : List View) (seat : ℕ) (v left right : View) → AreTallied views → get_elem? views seat ≡ some v
    → parts left + parts right ≡ parts v → totals left + totals right ≡ totals v
    → (total left + total right) + steps v ≡ total v + (steps left + steps right)
    → AreTallied (set views seat left ++ right ∷ [])
splits_evenly views seat v left right rule here parts_are totals_are steps_are =
    let a = sum_by-split parts views seat v left right here in
    let b = sum_by-split totals views seat v left right here in
    let c = sum_by-split total views seat v left right here in
    let d = sum_by-split steps views seat v left right here in
    let p = rule.parts in
    let o = rule.one in
    let t = rule.total in
    record { parts = omega arith; one = omega arith; total = omega arith }

-- two views are joined without loss
pub joins_evenly : (views : List View) (seat other : ℕ) (v w both left : View) → AreTallied views
    → get_elem? views seat ≡ some v → get_elem? (set views seat both) other ≡ some w
    → parts both + parts left ≡ parts v + parts w → totals both + totals left ≡ totals v + totals w
    → (total both + total left) + (steps v + steps w) ≡ (total v + total w) + (steps both + steps left)
    → AreTallied (set (set views seat both) other left)
joins_evenly views seat other v w both left rule here there parts_are totals_are steps_are =
    let a = sum_by-join parts views seat other v w both left here there in
    let b = sum_by-join totals views seat other v w both left here there in
    let c = sum_by-join total views seat other v w both left here there in
    let d = sum_by-join steps views seat other v w both left here there in
    let p = rule.parts in
    let o = rule.one in
    let t = rule.total in
    record { parts = omega arith; one = omega arith; total = omega arith }

no_steps_left : (v : View) → parts v ≡ 0 → steps v ≡ 0
no_steps_left v none = of_list v.steps (let n : length v.steps + v.kept ≡ 0 = none in omega arith)
  where
    of_list : (xs : List ℕ) → length xs ≡ 0 → sum xs ≡ 0
    of_list [] e = refl
    of_list (x ∷ xs) e = absurd (omega arith)

no_total_left : (v : View) → totals v ≡ 0 → total v ≡ 0
no_total_left v none = of_option v.total none
  where
    of_option : (o : Option ℕ) → one_of o ≡ 0 → value_of o ≡ 0
    of_option None e = refl
    of_option (Some t) e = absurd (omega arith)

-- the total is the steps of its own view and those of all others, of which there are none where it has all parts
pub total_is : (views : List View) (seat : ℕ) (v : View) → AreTallied views → get_elem? views seat ≡ some v → totals v ≡ 1
    → (steps v ≤ total v) × (parts v ≡ ALL_PARTS → total v ≡ steps v)
total_is views seat v rule here keeps =
    let others : List View = set views seat nothing in
    let a : sum_by parts others + parts v ≡ sum_by parts views + 0 = sum_by-replace parts views seat v nothing here in
    let b : sum_by totals others + totals v ≡ sum_by totals views + 0 = sum_by-replace totals views seat v nothing here in
    let c : sum_by total others + total v ≡ sum_by total views + 0 = sum_by-replace total views seat v nothing here in
    let d : sum_by steps others + steps v ≡ sum_by steps views + 0 = sum_by-replace steps views seat v nothing here in
    let p = rule.parts in
    let o = rule.one in
    let t = rule.total in
    let alone : sum_by totals others ≡ 0 = omega arith in
    let none : sum_by total others ≡ 0 = sum_by-nothing totals total no_total_left others alone in (
      omega arith,
      λ all. let rest : sum_by parts others ≡ 0 = omega arith in
          let idle : sum_by steps others ≡ 0 = sum_by-nothing parts steps no_steps_left others rest in
          omega arith,
    )

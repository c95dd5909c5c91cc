-- Seats that are split and joined, and a seat that looks.
use Rattle.std.proofs.Common.{◌≡◌, ℕ, ◌+◌, ◌<◌, ◌≤◌, Some, None, List, [], ◌∷◌, ◌++◌, length, take, drop, refl, sym, ap, subst, ◌∙◌, arith, length-append}
use Rattle.std.specs.Prelude.{sum, IfSome}
use Rattle.std.proofs.lemmas.List.Sums.{sum_by-cons, sum_by-append}
use mathlib.Core.Option as maybe
use Rattle.atomic_table.specs.Table.{State, Me, keeps, Splits, Joins, Allows, step}
use Rattle.atomic_table.proofs.Lists.{set_again}
use Rattle.zq_tally.specs.declared.view.View.{View}
use Rattle.zq_tally.specs.Views.{view, nothing, steps, totals, total}
use Rattle.zq_tally.specs.Rule.{AreTallied, IsTallied}
use Rattle.zq_tally.specs.Steps.{joined, first_of, first_out, stepped_of, stepped_out, no_steps, one_less, IsBound, Learned}
use Rattle.zq_tally.proofs.Balance.{splits_evenly, joins_evenly, total_is}

abbrev Rule : State (Unit {0}) View → Type 0
Rule = IsTallied

sum-cons : (x : ℕ) (xs : List ℕ) → sum (x ∷ xs) ≡ x + sum xs
sum-cons x xs = sum_by-cons (λ n. n) x xs

sum-append : (xs ys : List ℕ) → sum (xs ++ ys) ≡ sum xs + sum ys
sum-append xs ys = sum_by-append (λ n. n) xs ys

first_and_rest : (xs : List ℕ) → (length (drop 1 xs) + length (take 1 xs) ≡ length xs) × (sum (drop 1 xs) + sum (take 1 xs) ≡ sum xs)
first_and_rest [] = (refl, refl)
first_and_rest (x ∷ xs) =
    let whole : sum (x ∷ xs) ≡ x + sum xs = sum-cons x xs in
    (omega arith, omega arith ∙ sym whole)

pub leaves : (seat : ℕ) (v : View) → Splits Rule seat v nothing v
leaves seat v s rule here = splits_evenly s.views seat v nothing v rule here (omega arith) (omega arith) (omega arith)

pub deals : (seat : ℕ) (v : View) → 0 < v.kept → Splits Rule seat v (one_less v) (no_steps v)
deals seat v spare s rule here = splits_evenly s.views seat v (one_less v) (no_steps v) rule here (omega arith) (omega arith) (omega arith)

pub gives_first : (seat : ℕ) (v : View) → Splits Rule seat v (first_out v) (first_of v)
gives_first seat v s rule here =
    let one = first_and_rest v.steps in
    let lengths = one.0 in
    let sums = one.1 in
    splits_evenly s.views seat v (first_out v) (first_of v) rule here (omega arith) (omega arith) (omega arith)

-- a pass has made one more step, and the total counts it
pub advances : (seat n t kept : ℕ) (others : List ℕ) → Splits Rule seat (view (n ∷ others) kept (Some t)) (view others kept (Some (t + 1))) (view ((n + 1) ∷ []) 0 None)
advances seat n t kept others s rule here =
    let before : sum (n ∷ others) ≡ n + sum others = sum-cons n others in
    splits_evenly s.views seat (view (n ∷ others) kept (Some t)) (view others kept (Some (t + 1))) (view ((n + 1) ∷ []) 0 None) rule here (omega arith) (omega arith) (omega arith)

pub gathers : (seat other : ℕ) (v w : View) → w.total ≡ None → Joins Rule seat v other w (joined v w) nothing
gathers seat other v w no_total s rule here apart there =
    let lengths = length-append w.steps v.steps in
    let sums = sum-append w.steps v.steps in
    let none : totals w ≡ 0 = ap (λ o. totals (view w.steps w.kept o)) no_total in
    let zero_total : total w ≡ 0 = ap (λ o. total (view w.steps w.kept o)) no_total in
    joins_evenly s.views seat other v w (joined v w) nothing rule here there (omega arith) (omega arith) (omega arith)

pub looks : (slots seat t : ℕ) (me : Me (Unit {0}) View) → me.0.total ≡ Some t → Allows Rule slots seat me 0 (λ n. n) (Learned (step slots 0 0 0 maybe.none) me)
looks slots seat t me keeps_total s rule sized here fits =
    let one : totals me.0 ≡ 1 = ap (λ o. totals (view me.0.steps me.0.kept o)) keeps_total in
    let value : total me.0 ≡ t = ap (λ o. total (view me.0.steps me.0.kept o)) keeps_total in
    let told = total_is s.views seat me.0 rule here one in
    let bound : IsBound me.0 t = (subst (λ n. steps me.0 ≤ n) value told.0, λ all. sym value ∙ told.1 all) in (
      me.0,
      keeps,
      tt,
      subst AreTallied (sym (set_again s.views seat me.0 here)) rule,
      (refl, subst (λ o. IfSome o (IsBound me.0)) (sym keeps_total) bound),
    )

-- the same of a view of which this is known
pub steps_on : (seat n t : ℕ) (others : List ℕ) (v : View) → v.steps ≡ n ∷ others → v.total ≡ Some t → Splits Rule seat v (stepped_out v) (stepped_of v)
steps_on seat n t others v steps_are total_is_t =
    subst (λ w. Splits Rule seat w (stepped_out w) (stepped_of w)) (λ i. view (sym steps_are i) v.kept (sym total_is_t i)) (advances seat n t v.kept others)

-- Lists of which a part was lent, and came back.

use Rattle.std.proofs.Common.{List, [], ap, arith, drop, get_or, length, subst, sym, take, ℕ, ◌+◌, ◌++◌, ◌-◌, ◌∙◌, ◌∷◌, ◌≡◌, ◌≤◌}
use Rattle.std.proofs.lemmas.List.{append-nil, drop-append-le, drop-drop, drop_all, drop_at, length-drop, length-take-le, take-append-drop, take_all}

module _ {X : Type 0} where
  -- what is lent from a place on, of a list that is there as it was
  pub rest_lent : (all now : List X) (at : ℕ) → drop at now ≡ drop at all → take (length now - at) (drop at now) ≡ drop at all
  rest_lent all now at left = take_all (length now - at) (drop at now) (omega (arith, length-drop at now)) ∙ left

  -- it came back, and behind its first n it is as it was
  pub rest_back : (all now new : List X) (at n : ℕ) → at ≤ length now → drop at now ≡ drop at all → drop n new ≡ drop n (take (length now - at) (drop at now)) →
      drop (at + n) (take at now ++ (new ++ drop (length now - at) (drop at now))) ≡ drop (at + n) all
  rest_back all now new at n within left back =
      let none : drop (length now - at) (drop at now) ≡ [] = drop_all (length now - at) (drop at now) (omega (arith, length-drop at now)) in
      sym (drop-drop n at (take at now ++ (new ++ drop (length now - at) (drop at now))))
      ∙ ap (drop n) (drop_at (take at now) (new ++ drop (length now - at) (drop at now)) at (length-take-le at now within))
      ∙ ap (λ l. drop n (new ++ l)) none
      ∙ ap (drop n) (append-nil new)
      ∙ back
      ∙ ap (drop n) (rest_lent all now at left)
      ∙ drop-drop n at all

  -- the first m were lent, and came back with those behind the first n as they were
  pub front_back : (all new : List X) (m n : ℕ) → n ≤ length (take m all) → length new ≡ length (take m all) → drop n new ≡ drop n (take m all) → drop n (new ++ drop m all) ≡ drop n all
  front_back all new m n few long back =
      drop-append-le n new (drop m all) (omega (arith, few, long))
      ∙ ap (λ l. l ++ drop m all) back
      ∙ sym (drop-append-le n (take m all) (drop m all) few)
      ∙ ap (drop n) (take-append-drop m all)

  -- and all of them as they were
  pub front_same : (all new : List X) (m n : ℕ) → n ≡ 0 → drop n new ≡ drop n (take m all) → new ++ drop m all ≡ all
  front_same all new m n none back = ap (λ l. l ++ drop m all) (subst (λ k. drop k new ≡ drop k (take m all)) none back) ∙ take-append-drop m all

  pub first_is : (all now : List X) (first : X) (others : List X) (d : X) → now ≡ all → all ≡ first ∷ others → get_or now 0 d ≡ first
  first_is all now first others d same split = ap (λ l. get_or l 0 d) (same ∙ split)

use Rattle.std.proofs.Common.{ap, arith, eq-eqb, refl, sym, ◌∙◌}
use Rattle.std.proofs.lemmas.List.{length-append}
use Rattle.std.proofs.lemmas.List.Folds.{list_all-append}
use Rattle.std.specs.Prelude.{List, [], length, true, ℕ, ◌==◌, ◌∷◌, ◌≡◌}
use Rattle.zq_model.proofs.BookSteps.{are_steps_over-append, steps_image-append}
use Rattle.zq_model.proofs.Works.{after_steps-append, handed_after-append}
use Rattle.zq_model.specs.Books.{HandedOn, Merged, Recorded, Step, TookOver, handed_on, merged, recorded, stamp_of, taken_over}
use Rattle.zq_model.specs.Reach.{begun}
use Rattle.zq_model.specs.Sets.{SITES}
use Rattle.zq_model.proofs.reach.working.Goals as goal

same_stamp : (stamp : ℕ) → (stamp == stamp) ≡ true
same_stamp stamp = eq-eqb stamp stamp refl

pub returns-clause-records : goal.returns-clause-records
returns-clause-records k = λ b a stamp steps c is over.
    let last : List Step = Recorded (record { stamp = stamp; change = c }) ∷ [] in
    record {
      heap = is.heap;
      heaps = is.heaps;
      rule = is.rule;
      limits = is.limits;
      handed = is.handed ∙ sym (handed_after-append a.handed steps last);
      legal = are_steps_over-append a.heaps a.heap steps last a.state is.legal (rw (← is.heap, ← is.heaps, ← is.state, over) refl);
      state = rw (is.state, steps_image-append steps last a.state) refl;
      own = rw (list_all-append (λ s. stamp_of s == stamp) steps last, is.own, same_stamp stamp) refl;
      stamp_is = refl;
      count = omega (arith, is.count, length-append steps last);
      is = ap (λ d. recorded d stamp c) is.is ∙ sym (after_steps-append steps last (begun stamp a));
    }

pub returns-clause-merges : goal.returns-clause-merges
returns-clause-merges k = λ b a stamp steps other is wide.
    let last : List Step = Merged stamp other ∷ [] in
    record {
      heap = is.heap;
      heaps = is.heaps;
      rule = is.rule;
      limits = is.limits;
      handed = is.handed ∙ sym (handed_after-append a.handed steps last);
      legal = are_steps_over-append a.heaps a.heap steps last a.state is.legal (rw (← is.state, eq-eqb (length b.state.vector) SITES wide) refl);
      state = rw (is.state, steps_image-append steps last a.state) refl;
      own = rw (list_all-append (λ s. stamp_of s == stamp) steps last, is.own, same_stamp stamp) refl;
      stamp_is = refl;
      count = omega (arith, is.count, length-append steps last);
      is = ap (λ d. merged d stamp other) is.is ∙ sym (after_steps-append steps last (begun stamp a));
    }

pub returns-clause-hands_on : goal.returns-clause-hands_on
returns-clause-hands_on k = λ b a stamp handed steps is.
    let last : List Step = HandedOn stamp handed ∷ [] in
    record {
      heap = is.heap;
      heaps = is.heaps;
      rule = is.rule;
      limits = is.limits;
      handed = sym (handed_after-append a.handed steps last);
      legal = are_steps_over-append a.heaps a.heap steps last a.state is.legal refl;
      state = rw (is.state, steps_image-append steps last a.state) refl;
      own = rw (list_all-append (λ s. stamp_of s == stamp) steps last, is.own, same_stamp stamp) refl;
      stamp_is = refl;
      count = omega (arith, is.count, length-append steps last);
      is = ap (λ d. handed_on d stamp handed) is.is ∙ sym (after_steps-append steps last (begun stamp a));
    }

pub returns-clause-takes_over : goal.returns-clause-takes_over
returns-clause-takes_over k = λ b a stamp steps other is wide covered.
    let last : List Step = TookOver stamp other ∷ [] in
    record {
      heap = is.heap;
      heaps = is.heaps;
      rule = is.rule;
      limits = is.limits;
      handed = is.handed ∙ sym (handed_after-append a.handed steps last);
      legal = are_steps_over-append a.heaps a.heap steps last a.state is.legal (rw (← is.state, eq-eqb (length b.state.vector) SITES wide, covered) refl);
      state = sym (steps_image-append steps last a.state);
      own = rw (list_all-append (λ s. stamp_of s == stamp) steps last, is.own, same_stamp stamp) refl;
      stamp_is = refl;
      count = omega (arith, is.count, length-append steps last);
      is = ap (λ d. taken_over d stamp other) is.is ∙ sym (after_steps-append steps last (begun stamp a));
    }

pub returns-clause-starts : goal.returns-clause-starts
returns-clause-starts k = λ a stamp. record {
  heap = refl;
  heaps = refl;
  rule = refl;
  limits = refl;
  handed = refl;
  legal = refl;
  state = refl;
  own = refl;
  stamp_is = refl;
  count = omega arith;
  is = refl;
}

pub returns-clause-leaves : goal.returns-clause-leaves
returns-clause-leaves k = λ b a stamp steps is. is.is

use Rattle.std.proofs.Common.{ap, arith, refl, sym, ◌∙◌}
use Rattle.std.specs.Prelude.{[], drop, take, ◌∷◌, ◌++◌, ◌≡◌}
use Rattle.std.proofs.lemmas.List.{length-append, length-drop, map-append, take-append-drop}
use Rattle.zq_model.specs.Books.{Record, Recorded, steps_image, steps_of}
use Rattle.zq_model.proofs.BookSteps.{are_rising-append, are_rising-raised, are_rising-rest, are_steps_over-append, are_steps_over-rest, steps_image-append}
use Rattle.zq_model.proofs.books.keeping.Goals as goal

pub returns-clause-touch : goal.returns-clause-touch
returns-clause-touch c = λ b stamp le is. record {
  steps = is.steps;
  replay = is.replay;
  stamps = are_rising-raised 0 b.stamp stamp (steps_of b.tail) le is.stamps;
  count = is.count;
}

pub returns-clause-recording : goal.returns-clause-recording
returns-clause-recording c = λ b stamp change le over is.
    let r : Record = record { stamp = stamp; change = change } in
    let longer : steps_of (b.tail ++ r ∷ []) ≡ steps_of b.tail ++ Recorded r ∷ [] = map-append (λ q. Recorded q) b.tail (r ∷ []) in
    record {
      steps = rw longer (are_steps_over-append b.heaps b.heap (steps_of b.tail) (Recorded r ∷ []) b.base is.steps (rw (is.replay, over) refl));
      replay = rw (longer, steps_image-append (steps_of b.tail) (Recorded r ∷ []) b.base, is.replay) refl;
      stamps = rw longer (are_rising-append 0 stamp (steps_of b.tail) (Recorded r) (omega arith) refl (are_rising-raised 0 b.stamp stamp (steps_of b.tail) le is.stamps));
      count = omega (arith, length-append b.tail (r ∷ []), is.count);
    }

pub returns-clause-advance : goal.returns-clause-advance
returns-clause-advance c = λ n b is.
    let parts : steps_of b.tail ≡ steps_of (take n b.tail) ++ steps_of (drop n b.tail) =
    ap steps_of (sym (take-append-drop n b.tail)) ∙ map-append (λ r. Recorded r) (take n b.tail) (drop n b.tail) in
    record {
      steps = are_steps_over-rest b.heaps b.heap (steps_of (take n b.tail)) (steps_of (drop n b.tail)) b.base (rw (← parts) is.steps);
      replay = sym (steps_image-append (steps_of (take n b.tail)) (steps_of (drop n b.tail)) b.base) ∙ ap (λ s. steps_image s b.base) (sym parts) ∙ is.replay;
      stamps = are_rising-rest 0 b.stamp (steps_of (take n b.tail)) (steps_of (drop n b.tail)) (rw (← parts) is.stamps);
      count = omega (arith, length-drop n b.tail, is.count);
    }

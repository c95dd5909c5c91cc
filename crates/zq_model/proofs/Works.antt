-- The book that a call leaves.

use Rattle.std.specs.Prelude.{List, Option, Some, [], refl, ℕ, ◌++◌, ◌∷◌, ◌≡◌}
use Rattle.zq_model.specs.Books.{Book, HandedOn, Merged, Recorded, Step, TookOver, steps_image, tail_after}
use Rattle.zq_model.specs.Reach.{after_step, after_steps, begun, handed_after, worked}

-- further steps work on what the first ones leave
pub after_steps-append : (xs ys : List Step) (b : Book) → after_steps (xs ++ ys) b ≡ after_steps ys (after_steps xs b)
after_steps-append [] ys b = refl
after_steps-append (x ∷ xs) ys b = after_steps-append xs ys (after_step x b)

pub after_steps-tail : (steps : List Step) (b : Book) → (after_steps steps b).tail ≡ tail_after b.tail steps
after_steps-tail [] b = refl
after_steps-tail (Recorded r ∷ steps) b = after_steps-tail steps (after_step (Recorded r) b)
after_steps-tail (Merged stamp other ∷ steps) b = after_steps-tail steps (after_step (Merged stamp other) b)
after_steps-tail (HandedOn stamp handed ∷ steps) b = after_steps-tail steps (after_step (HandedOn stamp handed) b)
after_steps-tail (TookOver stamp other ∷ steps) b = after_steps-tail steps (after_step (TookOver stamp other) b)

pub handed_after-append : (before : Option ℕ) (xs ys : List Step) → handed_after before (xs ++ ys) ≡ handed_after (handed_after before xs) ys
handed_after-append before [] ys = refl
handed_after-append before (Recorded r ∷ xs) ys = handed_after-append before xs ys
handed_after-append before (Merged stamp other ∷ xs) ys = handed_after-append before xs ys
handed_after-append before (HandedOn stamp handed ∷ xs) ys = handed_after-append (Some handed) xs ys
handed_after-append before (TookOver stamp other ∷ xs) ys = handed_after-append before xs ys

-- what steps leave of a book
pub record IsAfter (steps : List Step) (new old : Book) : Type 0 where
  pub heap : new.heap ≡ old.heap
  pub heaps : new.heaps ≡ old.heaps
  pub rule : new.rule ≡ old.rule
  pub state : new.state ≡ steps_image steps old.state

after_is : (steps : List Step) (b : Book) → IsAfter steps (after_steps steps b) b
after_is [] b = record { heap = refl; heaps = refl; rule = refl; state = refl }
after_is (Recorded r ∷ steps) b =
    let rest = after_is steps (after_step (Recorded r) b) in
    record { heap = rest.heap; heaps = rest.heaps; rule = rest.rule; state = rest.state }
after_is (Merged stamp other ∷ steps) b =
    let rest = after_is steps (after_step (Merged stamp other) b) in
    record { heap = rest.heap; heaps = rest.heaps; rule = rest.rule; state = rest.state }
after_is (HandedOn stamp handed ∷ steps) b =
    let rest = after_is steps (after_step (HandedOn stamp handed) b) in
    record { heap = rest.heap; heaps = rest.heaps; rule = rest.rule; state = rest.state }
after_is (TookOver stamp other ∷ steps) b =
    let rest = after_is steps (after_step (TookOver stamp other) b) in
    record { heap = rest.heap; heaps = rest.heaps; rule = rest.rule; state = rest.state }

-- so a call leaves a book of the heap that it found, and its state is after its steps
pub worked_is : (stamp : ℕ) (steps : List Step) (b : Book) → IsAfter steps (worked stamp steps b) b
worked_is stamp steps b =
    let rest = after_is steps (begun stamp b) in
    record { heap = rest.heap; heaps = rest.heaps; rule = rest.rule; state = rest.state }

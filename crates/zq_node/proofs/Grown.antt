-- What a heap knows after operations that it took in turn.

use Rattle.std.proofs.Common.{ap, arith, get_or, get_or-set_other, get_or-set_same, inl, inr, subst, sym, ◌∙◌}
use Rattle.std.proofs.lemmas.Bool.{and_parts, cases_eq, cases_lt}
use Rattle.std.proofs.lemmas.List.{set_past}
use Rattle.std.specs.Prelude.{List, [], length, refl, slice_set, true, ℕ, ◌++◌, ◌<◌, ◌∷◌, ◌≡◌, ◌≤◌}
use Rattle.zq_dots.specs.Placed.{Placed}
use Rattle.zq_journal.specs.Books.{steps_when}
use Rattle.zq_model.proofs.BookSteps.{steps_image-append}
use Rattle.zq_model.proofs.Covered.{has_recorded}
use Rattle.zq_model.proofs.Dots.{has_from, has_not, has_parts}
use Rattle.zq_model.proofs.NewRecords.{change_is}
use Rattle.zq_model.proofs.Taken.{taken_known, taken_new}
use Rattle.zq_model.specs.Books.{Step, Took, are_steps_over, image_step, is_change_over, is_step_over, steps_image}
use Rattle.zq_model.specs.Image.{Image, image_when}
use Rattle.zq_model.specs.Operation.{Operation, has}
use Rattle.zq_model.specs.Sets.{Early, IsIn, Known, New, Taken, taken_of}
use Rattle.zq_shard.specs.Shard.{HeapImage}
use Rattle.zq_spread.specs.Batches.{AreTaken, heap_after, judged_at, steps_of_all}

-- the steps can come over the image, the first of them and then the others
over_parts : (K h : ℕ) (xs ys : List Step) (a : Image) → are_steps_over K h a (xs ++ ys) ≡ true → (are_steps_over K h a xs ≡ true) × (are_steps_over K h (steps_image xs a) ys ≡ true)
over_parts K h [] ys a over = (refl, over)
over_parts K h (x ∷ xs) ys a over =
    let both : (is_step_over K h a x ≡ true) × (are_steps_over K h (image_step x a) (xs ++ ys) ≡ true) = and_parts _ _ over in
    let rest = over_parts K h xs ys (image_step x a) both.1 in
    (rw (both.0, rest.0) refl, rest.1)

image_steps : (t : Taken) (stamp : ℕ) (o : Operation) (a : Image) → steps_image (steps_when t stamp o) a ≡ image_when t o a
image_steps New stamp o a = refl
image_steps Known stamp o a = refl
image_steps Early stamp o a = refl

-- ---- what is known stays so

-- a counter that is raised
raised : (v : List ℕ) (s n t : ℕ) → get_or v s 0 < n → get_or v t 0 ≤ get_or (slice_set v s n) t 0
raised v s n t above =
    elim (cases_eq t s) [
      | inl same ↦ subst (λ r. get_or v r 0 ≤ get_or (slice_set v s n) r 0) (sym same)
          (elim (cases_lt s (length v)) [
            | inl within ↦ (let own : get_or (slice_set v s n) s 0 ≡ n = get_or-set_same v s n 0 within in omega arith)
            | inr past ↦ (let stays : slice_set v s n ≡ v = set_past v s n past in subst (λ w. get_or v s 0 ≤ get_or w s 0) (sym stays) (omega arith))
          ])
      | inr apart ↦ (let other : get_or (slice_set v s n) t 0 ≡ get_or v t 0 = get_or-set_other v s t n 0 apart in omega arith)
    ]

one_stays : (K h stamp : ℕ) (o : Operation) (a : Image) (t : Taken) → taken_of a.vector o ≡ t → are_steps_over K h a (steps_when t stamp o) ≡ true → (s n : ℕ) → has a.vector s n ≡ true → has (image_when t o a).vector s n ≡ true
one_stays K h stamp o a New judged over s n known =
    let is = change_is K h a.vector (Took o) (and_parts _ _ over).0 in
    let next = is.operation.next in
    let above : get_or a.vector o.site 0 < o.n = has_not a.vector o.site o.n (taken_new a.vector o judged).0 (omega (arith, next)) in
    let parts = has_parts a.vector s n known in
    let more = raised a.vector o.site o.n s above in
    has_from (slice_set a.vector o.site o.n) s n parts.0 (omega (arith, parts.1, more))
one_stays K h stamp o a Known judged over s n known = known
one_stays K h stamp o a Early judged over s n known = known

one_known : (K h stamp : ℕ) (o : Operation) (a : Image) (t : Taken) → taken_of a.vector o ≡ t → (t ≡ Early → ⊥) → are_steps_over K h a (steps_when t stamp o) ≡ true → has (image_when t o a).vector o.site o.n ≡ true
one_known K h stamp o a New judged late over = has_recorded K h a (Took o) (and_parts _ _ over).0
one_known K h stamp o a Known judged late over = taken_known a.vector o judged
one_known K h stamp o a Early judged late over = absurd (late refl)

-- ---- of a list

-- the heap's image after the first of them, and what is left of the steps
abbrev first_of : ℕ → Placed → HeapImage → List Step
first_of stamp p s = steps_when (judged_at s p) stamp p.operation

rest_over : (K h stamp : ℕ) (p : Placed) (ops : List Placed) (s : HeapImage) → are_steps_over K h s.image (steps_of_all stamp (p ∷ ops) s) ≡ true →
    (are_steps_over K h s.image (first_of stamp p s) ≡ true) × (are_steps_over K h (heap_after p s).image (steps_of_all stamp ops (heap_after p s)) ≡ true)
rest_over K h stamp p ops s over =
    let both = over_parts K h (first_of stamp p s) (steps_of_all stamp ops (heap_after p s)) s.image over in
    (both.0, subst (λ (a : Image). are_steps_over K h a (steps_of_all stamp ops (heap_after p s)) ≡ true) (image_steps (judged_at s p) stamp p.operation s.image) both.1)

rest_image : (stamp : ℕ) (p : Placed) (ops : List Placed) (s : HeapImage) → steps_image (steps_of_all stamp (p ∷ ops) s) s.image ≡ steps_image (steps_of_all stamp ops (heap_after p s)) (heap_after p s).image
rest_image stamp p ops s =
    steps_image-append (first_of stamp p s) (steps_of_all stamp ops (heap_after p s)) s.image
    ∙ ap (steps_image (steps_of_all stamp ops (heap_after p s))) (image_steps (judged_at s p) stamp p.operation s.image)

all_stays : (K h stamp : ℕ) (ops : List Placed) (s : HeapImage) → are_steps_over K h s.image (steps_of_all stamp ops s) ≡ true → (i n : ℕ) → has s.image.vector i n ≡ true →
    has (steps_image (steps_of_all stamp ops s) s.image).vector i n ≡ true
all_stays K h stamp [] s over i n known = known
all_stays K h stamp (p ∷ ops) s over i n known =
    let both = rest_over K h stamp p ops s over in
    subst (λ (a : Image). has a.vector i n ≡ true) (sym (rest_image stamp p ops s))
    (all_stays K h stamp ops (heap_after p s) both.1 i n (one_stays K h stamp p.operation s.image (judged_at s p) refl both.0 i n known))

-- each that it took is known to it
pub all_known : (K h stamp : ℕ) (ops : List Placed) (s : HeapImage) → are_steps_over K h s.image (steps_of_all stamp ops s) ≡ true → AreTaken ops s → (p : Placed) → IsIn p ops →
    has (steps_image (steps_of_all stamp ops s) s.image).vector p.operation.site p.operation.n ≡ true
all_known K h stamp [] s over are p here = absurd here
all_known K h stamp (x ∷ ops) s over are p here =
    let both = rest_over K h stamp x ops s over in
    subst (λ (a : Image). has a.vector p.operation.site p.operation.n ≡ true) (sym (rest_image stamp x ops s)) (elim here [
      | inl same ↦ subst (λ (q : Placed). has (steps_image (steps_of_all stamp ops (heap_after x s)) (heap_after x s).image).vector q.operation.site q.operation.n ≡ true) same
          (all_stays K h stamp ops (heap_after x s) both.1 x.operation.site x.operation.n (one_known K h stamp x.operation s.image (judged_at s x) refl are.1 both.0))
      | inr later ↦ all_known K h stamp ops (heap_after x s) both.1 are.2 p later
    ])

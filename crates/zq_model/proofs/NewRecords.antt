-- The records of a book are new operations of its heap.

use Rattle.zq_model.proofs.Dots.{has_not_from}
use Rattle.std.proofs.Common.{inl, inr, ap, ◌∙◌, eq-eqb, sym, arith}
use Rattle.zq_model.proofs.Taken.{taken_from, covers_from}
use Rattle.std.proofs.lemmas.Bool.{and_parts, eqb-true, not-true}
use Rattle.std.specs.Cmp.Lexicographic.{same_text}
use Rattle.std.specs.Prelude.{List, [], length, not, refl, slice_index, true, ℕ, ◌&&◌, ◌+◌, ◌==◌, ◌∷◌, ◌≡◌}
use Rattle.zq_model.specs.Books.{Change, Made, Record, Took, are_steps_over, is_change_over, is_made_over, is_new_to, is_operation, is_over, is_wide, operation_of, operations_of, steps_image, steps_of}
use Rattle.zq_model.specs.Image.{Image, image_after}
use Rattle.zq_model.specs.Operation.{Operation, has}
use Rattle.zq_model.proofs.Tested.{operation_from, operation_to}
use Rattle.zq_model.specs.Sets.{IsIn, IsOperation, New, SITES, covers, taken_of}
use Rattle.zq_model.specs.Tail.{AreNew, image_after_all}

-- what a site of the vector v makes is new to it
made_is_new : (v : List ℕ) (o : Operation) → o.n ≡ slice_index o.seen o.site + 1 → is_made_over v o ≡ true → taken_of v o ≡ New
made_is_new v o next made =
    let seen : o.seen ≡ v = same_text o.seen v (sym made) in
    let n : o.n ≡ slice_index v o.site + 1 = next ∙ ap (λ u. slice_index u o.site + 1) seen in
    taken_from v o (has_not_from v o.site o.n (omega arith)) (rw seen (covers_from v v (λ t below. omega arith)))

took_is_new : (v : List ℕ) (o : Operation) → is_new_to v o ≡ true → taken_of v o ≡ New
took_is_new v o new =
    let parts : (not (has v o.site o.n) ≡ true) × (covers v o.seen ≡ true) = and_parts _ _ new in
    taken_from v o (not-true _ parts.0) parts.1

over_is_new : (v : List ℕ) (c : Change) → (operation_of c).n ≡ slice_index (operation_of c).seen (operation_of c).site + 1 → is_over v c ≡ true → taken_of v (operation_of c) ≡ New
over_is_new v (Made o) next over = made_is_new v o next over
over_is_new v (Took o) next over = took_is_new v o over

-- what a change tells: the vector has a counter for each site, and the operation is one of the heap
pub record IsChangeOver (K h : ℕ) (v : List ℕ) (c : Change) : Type 0 where
  pub wide : length v ≡ SITES
  pub heap : (operation_of c).heap ≡ h
  pub operation : IsOperation K (operation_of c)
  pub over : is_over v c ≡ true

pub change_is : (K h : ℕ) (v : List ℕ) (c : Change) → is_change_over K h v c ≡ true → IsChangeOver K h v c
change_is K h v c is =
    let first : (is_wide v ≡ true) × ((((operation_of c).heap == h) && (is_operation K (operation_of c) && is_over v c)) ≡ true) = and_parts _ _ is in
    let second : (((operation_of c).heap == h) ≡ true) × ((is_operation K (operation_of c) && is_over v c) ≡ true) = and_parts _ _ first.1 in
    let third : (is_operation K (operation_of c) ≡ true) × (is_over v c ≡ true) = and_parts _ _ second.1 in
    record { wide = eqb-true (length v) SITES first.0; heap = eqb-true _ _ second.0; operation = operation_from K (operation_of c) third.0; over = third.1 }

-- and the test says so
pub change_from : (K h : ℕ) (v : List ℕ) (c : Change) → length v ≡ SITES → (operation_of c).heap ≡ h → IsOperation K (operation_of c) → is_over v c ≡ true → is_change_over K h v c ≡ true
change_from K h v c wide heap operation over =
    rw (eq-eqb (length v) SITES wide, eq-eqb (operation_of c).heap h heap, operation_to K (operation_of c) operation, over) refl

pub change_is_new : (K h : ℕ) (v : List ℕ) (c : Change) → is_change_over K h v c ≡ true → ((operation_of c).heap ≡ h) × (taken_of v (operation_of c) ≡ New)
change_is_new K h v c over =
    let is : IsChangeOver K h v c = change_is K h v c over in
    (is.heap, over_is_new v c is.operation.next is.over)

-- a tail that can come over an image is a list of operations of the heap, each new where it comes
pub records_are_new : (K h : ℕ) (tail : List Record) (a : Image) → are_steps_over K h a (steps_of tail) ≡ true → AreNew (operations_of tail) a
records_are_new K h [] a over = tt
records_are_new K h (r ∷ tail) a over =
    let parts : (is_change_over K h a.vector r.change ≡ true) × (are_steps_over K h (image_after (operation_of r.change) a) (steps_of tail) ≡ true) = and_parts _ _ over in
    ((change_is_new K h a.vector r.change parts.0).1, records_are_new K h tail (image_after (operation_of r.change) a) parts.1)

pub records_of_heap : (K h : ℕ) (tail : List Record) (a : Image) → are_steps_over K h a (steps_of tail) ≡ true → (o : Operation) → IsIn o (operations_of tail) → o.heap ≡ h
records_of_heap K h [] a over o is = elim is [ ]
records_of_heap K h (r ∷ tail) a over o (inl e) =
    let parts : (is_change_over K h a.vector r.change ≡ true) × (are_steps_over K h (image_after (operation_of r.change) a) (steps_of tail) ≡ true) = and_parts _ _ over in
    sym (ap (λ p. p.heap) e) ∙ (change_is_new K h a.vector r.change parts.0).0
records_of_heap K h (r ∷ tail) a over o (inr is) =
    let parts : (is_change_over K h a.vector r.change ≡ true) × (are_steps_over K h (image_after (operation_of r.change) a) (steps_of tail) ≡ true) = and_parts _ _ over in
    records_of_heap K h tail (image_after (operation_of r.change) a) parts.1 o is

-- replaying the records is taking their operations
pub replay_is : (tail : List Record) (a : Image) → steps_image (steps_of tail) a ≡ image_after_all (operations_of tail) a
replay_is [] a = refl
replay_is (r ∷ tail) a = replay_is tail (image_after (operation_of r.change) a)

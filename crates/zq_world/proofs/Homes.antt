-- The one book of a move's heap, among books that are lent, and what the move tells over them.

use Rattle.std.proofs.Common.{List, Some, [], ap, arith, false, inl, inr, map, refl, suc, sym, true, zero, ℕ, ◌++◌, ◌<◌, ◌∙◌, ◌∷◌, ◌≡◌, ◌≢◌}
use Rattle.std.proofs.lemmas.Bool.{cond-false, cond-true, false_from_ne_true}
use Rattle.std.proofs.lemmas.List.{map-append}
use Rattle.std.proofs.lemmas.Option.{same_Some}
use Rattle.std.specs.Prelude.{filter, set, slice_get}
use Rattle.zq_commands.proofs.BookMoves.{home_heap, set_lent_after}
use Rattle.zq_commands.specs.Lending.{IsLending, lent_after, operations_by}
use Rattle.zq_commands.specs.VecBooks.{heaps_in, lending_of}
use Rattle.zq_dots.specs.Placed.{Placed}
use Rattle.zq_model.specs.Books.{Book}
use Rattle.zq_model.specs.Operation.{Operation}
use Rattle.zq_model.specs.Sets.{IsIn}
use Rattle.zq_model.proofs.Homes.{lent_each}
use Rattle.zq_model.proofs.Read.{in_place}
use Rattle.zq_model.specs.Lent.{AreLent, IsLent, is_home, made_in, operation_in}
use Rattle.zq_model.specs.Moves.{Move}
use Rattle.zq_world.specs.Told.{lending_told, operations_in, told_in}

module _ (site stamp : ℕ) (move : Move) where
  not_home : (K : ℕ) (b c : Book) → IsLent K b → IsLent K c → is_home move b ≡ true → b.heap ≢ c.heap → is_home move c ≡ false
  not_home K b c lent others home apart = false_from_ne_true _ (λ there. apart (sym (home_heap site stamp move K b lent home) ∙ home_heap site stamp move K c others there))

  none_home : (K : ℕ) (b : Book) (books : List Book) → IsLent K b → is_home move b ≡ true → AreLent K books → ((later : Book) → IsIn later books → b.heap < later.heap) →
      filter (is_home move) books ≡ []
  none_home K b [] lent home are above = refl
  none_home K b (c ∷ books) lent home are above =
      let away = not_home K b c lent are.0 home (λ same. absurd (omega (arith, same, above c (inl refl)))) in
      cond-false (is_home move c) (c ∷ filter (is_home move) books) (filter (is_home move) books) away
      ∙ none_home K b books lent home are.2 (λ later here. above later (inr here))

  pub filter_home : (K : ℕ) (books : List Book) (place : ℕ) (b : Book) → AreLent K books → slice_get books place ≡ Some b → is_home move b ≡ true →
      filter (is_home move) books ≡ b ∷ []
  filter_home K [] place b are is home = absurd (cc)
  filter_home K (c ∷ books) zero b are is home =
      let same : c ≡ b = same_Some c b is in
      let there : is_home move c ≡ true = ap (is_home move) same ∙ home in
      let rest = none_home K c books are.0 there are.2 are.1 in
      cond-true (is_home move c) (c ∷ filter (is_home move) books) (filter (is_home move) books) there ∙ (λ i. same i ∷ rest i)
  filter_home K (c ∷ books) (suc place) b are is home =
      let here = in_place books place b is in
      let lent = lent_each K books b are.2 here in
      let away = not_home K b c lent are.0 home (λ same. absurd (omega (arith, same, are.1 b here))) in
      cond-false (is_home move c) (c ∷ filter (is_home move) books) (filter (is_home move) books) away ∙ filter_home K books place b are.2 is home

  pub only_told : (K : ℕ) (books : List Book) (place : ℕ) (b : Book) → AreLent K books → slice_get books place ≡ Some b → is_home move b ≡ true →
      operations_by site move books ≡ operation_in site move b ∷ []
  only_told K books place b are is home = ap (map (operation_in site move)) (filter_home K books place b are is home)

  -- the books with that of the heap after the move, and the list with its operation
  pub told_after_move : (books : List Book) (made : List Placed) (place : ℕ) (b : Book) → IsLending (lending_of books) → slice_get books place ≡ Some b → is_home move b ≡ true →
      lending_told (set books place (made_in site stamp move b)) (made ++ told_in site move b ∷ []) ≡ lent_after site stamp move (lending_told books made)
  told_after_move books made place b are is home =
      let first = set_lent_after site stamp move books place b are is home in
      let told : operations_in (made ++ told_in site move b ∷ []) ≡ operations_in made ++ operations_by site move books
      = map-append (λ (p : Placed). p.operation) made (told_in site move b ∷ []) ∙ ap (λ (os : List Operation). operations_in made ++ os) (sym (only_told (heaps_in books) books place b are.books is home)) in
      λ i. record { rule = (first i).rule; heaps = (first i).heaps; books = (first i).books; told = Some (told i) }

-- A move in the one book of its heap: the list with that book after it is what the move makes of the list.

use Rattle.std.proofs.Common.{Bool, List, None, Some, [], ap, arith, false, inl, inr, refl, set, subst, suc, sym, true, zero, ℕ, ◌<◌, ◌∙◌, ◌∷◌, ◌≡◌, ◌≢◌, ◌≤◌}
use Rattle.std.proofs.lemmas.Bool.{cond-false, cond-true, eqb-true, false_from_ne_true}
use Rattle.std.proofs.lemmas.Option.{same_Some}
use Rattle.std.specs.List.{list_any}
use Rattle.std.specs.Prelude.{if◌then◌else◌, slice_get}
use Rattle.zq_commands.specs.Lending.{IsDated, IsLending, lent_after}
use Rattle.zq_commands.specs.VecBooks.{heaps_in, lending_of, rule_in}
use Rattle.zq_model.specs.Books.{Book}
use Rattle.zq_model.proofs.Listing.{in_map_from}
use Rattle.zq_model.proofs.Membership.{any_in, any_some}
use Rattle.zq_model.specs.Bounded.{IsBounded}
use Rattle.zq_model.specs.Heaps.{heap_of}
use Rattle.zq_model.specs.Sets.{IsIn}
use Rattle.zq_model.proofs.Homes.{lent_each, lent_one}
use Rattle.zq_model.proofs.Read.{in_place}
use Rattle.zq_model.specs.Lent.{AreLent, IsLent, is_home, made, made_in}
use Rattle.zq_model.specs.Moves.{Move}
use Rattle.zq_semantics.specs.Run.{is_worn}

why_parts : (home worn : Bool) → (if home then worn else false) ≡ true → (home ≡ true) × (worn ≡ true)
why_parts true worn is = (refl, is)
why_parts false worn is = absurd (cc)

module _ (site stamp : ℕ) (move : Move) where
  abbrev moved : Book → Book
  moved b = if is_home move b then made_in site stamp move b else b

  -- what holds of a book and of the book after the move holds of what the move makes of it
  moved_keeps : (P : Book → Type 0) (b : Book) → P b → (is_home move b ≡ true → P (made_in site stamp move b)) → P (moved b)
  moved_keeps P b away home = elim (is_home move b) as (λ c. is_home move b ≡ c → P (if c then made_in site stamp move b else b)) [
    | true ↦ home
    | false ↦ λ _. away
  ] refl

  moved_heap : (b : Book) → (moved b).heap ≡ b.heap
  moved_heap b = moved_keeps (λ c. c.heap ≡ b.heap) b refl (λ _. refl)

  rule_made : (books : List Book) → rule_in (made site stamp move books) ≡ rule_in books
  rule_made [] = refl
  rule_made (b ∷ books) = moved_keeps (λ c. c.rule ≡ b.rule) b refl (λ _. refl)

  heaps_made : (books : List Book) → heaps_in (made site stamp move books) ≡ heaps_in books
  heaps_made [] = refl
  heaps_made (b ∷ books) = moved_keeps (λ c. c.heaps ≡ b.heaps) b refl (λ _. refl)

  -- the move leaves the rule and the number of heaps
  pub lending_made : (books : List Book) → lending_of (made site stamp move books) ≡ lent_after site stamp move (lending_of books)
  lending_made books = λ i. record { rule = rule_made books i; heaps = heaps_made books i; books = made site stamp move books; told = None }

  -- ---- the one book of the member's heap

  pub home_heap : (K : ℕ) (b : Book) → IsLent K b → is_home move b ≡ true → heap_of move.key move.member K ≡ b.heap
  home_heap K b lent home = ap (heap_of move.key move.member) (sym lent.heaps) ∙ eqb-true _ _ home

  away : (K : ℕ) (b c : Book) → IsLent K b → IsLent K c → is_home move b ≡ true → b.heap ≢ c.heap → moved c ≡ c
  away K b c lent others home apart =
      cond-false (is_home move c) (made_in site stamp move c) c (false_from_ne_true _ (λ there. apart (sym (home_heap K b lent home) ∙ home_heap K c others there)))

  rest_away : (K : ℕ) (b : Book) (books : List Book) → IsLent K b → is_home move b ≡ true → AreLent K books → ((later : Book) → IsIn later books → b.heap < later.heap) →
      made site stamp move books ≡ books
  rest_away K b [] lent home are above = refl
  rest_away K b (c ∷ books) lent home are above =
      let first = away K b c lent are.0 home (λ same. absurd (omega (arith, same, above c (inl refl)))) in
      let rest = rest_away K b books lent home are.2 (λ later here. above later (inr here)) in
      λ i. first i ∷ rest i

  -- the move is made in that book alone
  pub made_at : (K : ℕ) (books : List Book) (place : ℕ) (b : Book) → AreLent K books → slice_get books place ≡ Some b → is_home move b ≡ true →
      set books place (made_in site stamp move b) ≡ made site stamp move books
  made_at K [] place b are is home = absurd (cc)
  made_at K (c ∷ books) zero b are is home =
      let same : c ≡ b = same_Some c b is in
      let there : is_home move c ≡ true = ap (is_home move) same ∙ home in
      let first : made_in site stamp move b ≡ moved c = ap (made_in site stamp move) (sym same) ∙ sym (cond-true (is_home move c) (made_in site stamp move c) c there) in
      let rest = rest_away K c books are.0 there are.2 are.1 in
      λ i. first i ∷ sym rest i
  made_at K (c ∷ books) (suc place) b are is home =
      let here = in_place books place b is in
      let lent = lent_each K books b are.2 here in
      let first = away K b c lent are.0 home (λ same. absurd (omega (arith, same, are.1 b here))) in
      let rest = made_at K books place b are.2 is home in
      λ i. sym first i ∷ rest i

  -- ---- what is kept

  moved_lent : (K : ℕ) (b : Book) → IsLent K b → (is_home move b ≡ true → IsBounded K b.heap (made_in site stamp move b).state) → IsLent K (moved b)
  moved_lent K b lent bounded = moved_keeps (IsLent K) b lent (λ home. record { heaps = lent.heaps; bounded = bounded home })

  lent_made : (K : ℕ) (books : List Book) → AreLent K books → ((b : Book) → IsIn b books → is_home move b ≡ true → IsBounded K b.heap (made_in site stamp move b).state) →
      AreLent K (made site stamp move books)
  lent_made K [] are bounded = tt
  lent_made K (b ∷ books) are bounded = (
    moved_lent K b are.0 (bounded b (inl refl)),
    λ later there.
        let from = in_map_from moved later books there in
        let above = are.1 from.0 from.1 in
        let low = moved_heap b in
        let high = sym (ap (λ (c : Book). c.heap) from.2) ∙ moved_heap from.0 in
        omega (arith, above, low, high),
    lent_made K books are.2 (λ c here. bounded c (inr here)),
  )

  module _ (books : List Book) (place : ℕ) (b : Book) (are : IsLending (lending_of books)) (is : slice_get books place ≡ Some b) (home : is_home move b ≡ true) where
    -- it is the only book of the member's heap
    only_home : (c : Book) → IsIn c books → is_home move c ≡ true → c ≡ b
    only_home c here there =
        let K = heaps_in books in
        let stands = in_place books place b is in
        let first = home_heap K c (lent_each K books c are.books here) there in
        let second = home_heap K b (lent_each K books b are.books stands) home in
        lent_one K books c b are.books here stands (sym first ∙ second)

    pub set_made : set books place (made_in site stamp move b) ≡ made site stamp move books
    set_made = made_at (heaps_in books) books place b are.books is home

    pub set_lent_after : lending_of (set books place (made_in site stamp move b)) ≡ lent_after site stamp move (lending_of books)
    set_lent_after = ap lending_of set_made ∙ lending_made books

    pub set_lending : IsBounded b.heaps b.heap (made_in site stamp move b).state → IsLending (lending_of (set books place (made_in site stamp move b)))
    set_lending bounded =
        let K = heaps_in books in
        let its : IsBounded K b.heap (made_in site stamp move b).state = subst (λ (k : ℕ). IsBounded k b.heap (made_in site stamp move b).state) (lent_each K books b are.books (in_place books place b is)).heaps bounded in
        let lent = lent_made K books are.books (λ c here there. subst (λ (d : Book). IsBounded K d.heap (made_in site stamp move d).state) (sym (only_home c here there)) its) in
        subst IsLending (sym set_lent_after) (record {
          books = lent;
          ruled = λ c there.
              let from = in_map_from moved c books there in
              subst (λ (d : Book). d.rule ≡ rule_in books) from.2 (moved_keeps (λ d. d.rule ≡ rule_in books) from.0 (are.ruled from.0 from.1) (λ _. are.ruled from.0 from.1));
        })

    pub set_dated : IsDated stamp (lending_of books) → IsDated stamp (lending_of (set books place (made_in site stamp move b)))
    set_dated dated = subst (IsDated stamp) (sym set_lent_after) (
      dated.0,
      λ c there.
          let from = in_map_from moved c books there in
          subst (λ (d : Book). d.stamp ≤ stamp) from.2 (moved_keeps (λ d. d.stamp ≤ stamp) from.0 (dated.1 from.0 from.1) (λ _. omega arith)),
    )

    -- ---- a number at its last value

    abbrev is_why : Book → Bool
    is_why c = if is_home move c then is_worn site c else false

    -- it is at its last value in the books where it is in the book of the heap
    pub worn_why : is_worn site b ≡ true → list_any is_why books ≡ true
    worn_why worn = any_in is_why books b (in_place books place b is) (cond-true (is_home move b) (is_worn site b) false home ∙ worn)

    pub why_worn : list_any is_why books ≡ true → is_worn site b ≡ true
    why_worn any =
        let found = any_some is_why books any in
        let parts = why_parts (is_home move found.0) (is_worn site found.0) found.2 in
        subst (λ (c : Book). is_worn site c ≡ true) (only_home found.0 found.1 parts.0) parts.1

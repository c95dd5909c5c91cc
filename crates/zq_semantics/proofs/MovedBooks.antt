-- The books of a site after moves, and how many of the moves stand.

use Rattle.std.proofs.Common.{List, None, Some, [], ap, ap₂, arith, eq-eqb, eqb-true, false, inl, inr, le-leb, leb-true, length, map, option_map, refl, slice_index, subst, suc, sym, true, true≢false, zero, ℕ, ◌++◌, ◌+◌, ◌<◌, ◌==◌, ◌∙◌, ◌∷◌, ◌≡◌, ◌≤◌, ◌⊎◌}
use Rattle.std.proofs.lemmas.Bool.{cases_lt, cond-true, or_cases, or_left, or_right, cond-false, ne_eqb, false_from_ne_true}
use Rattle.std.proofs.lemmas.List.{get_or-set_same, get_or_past, length-map, take_all}
use Rattle.std.proofs.lemmas.Option.{none-some, same_Some, slice_get-map, slice_get_within}
use Rattle.std.specs.List.{list_any}
use Rattle.std.specs.Prelude.{Bool, if◌then◌else◌, nat_le, slice_get, slice_set, take}
use Rattle.zq_model.specs.Books.{Book}
use Rattle.zq_model.proofs.Made.{making_closed, making_image, making_world}
use Rattle.zq_model.proofs.Maps.{in_map}
use Rattle.zq_model.proofs.Membership.{any_some, in_taken}
use Rattle.zq_model.proofs.Sites.{length-by_site}
use Rattle.zq_model.specs.Heaps.{heap_of}
use Rattle.zq_model.specs.Image.{Image, image_after, image_of}
use Rattle.zq_model.specs.Operation.{Operation, operation_over}
use Rattle.zq_model.specs.Rule.{Rule}
use Rattle.zq_model.specs.Sets.{IsClosed, IsHeaps, IsIn, IsMade, IsWorld, LAST, SITES, last, vector_of}
use Rattle.zq_model.proofs.Read.{in_place, placed_in}
use Rattle.zq_model.specs.Lent.{books_after, is_home, made, made_in}
use Rattle.zq_model.specs.Moves.{Move}
use Rattle.zq_semantics.specs.Run.{IsWhy, LAST_COUNT, Number, is_worn}
use Rattle.zq_semantics.proofs.BooksOf.{book_here, book_there, books_of_others, same_elsewhere, with_at_here}
use Rattle.zq_semantics.proofs.KeptRuns.{heap_below, made_is}
use Rattle.zq_semantics.specs.Books.{AreBooksOf, AreSound, AreUnworn, IsBookOf, IsSoundMove}
use Rattle.zq_semantics.specs.Plan.{Plan}
use Rattle.zq_semantics.specs.Replies.{Reply, bytes_of}
use Rattle.zq_semantics.specs.Doing.{done_by, done_to}
use Rattle.zq_semantics.specs.State.{State, after_move, after_moves, home_of, is_full, is_spent, operation_by, standing}

-- what is read of a mapped list is mapped
mapped_at : {X Y : Type 0} (f : X → Y) (xs : List X) (i : ℕ) (y : Y) → slice_get (map f xs) i ≡ Some y → (x : X) × (slice_get xs i ≡ Some x) × (f x ≡ y)
mapped_at {X = X} f xs i y at =
    elim (slice_get xs i) as (λ r. slice_get xs i ≡ r → option_map f r ≡ Some y → (x : X) × (slice_get xs i ≡ Some x) × (f x ≡ y)) [
      | None ↦ λ _ e. absurd (none-some y e)
      | Some x ↦ λ found e. (x, found, same_Some (f x) y e)
    ] refl (sym (slice_get-map f xs i) ∙ at)

-- a number inside a list is that of an element
pub read_within : {X : Type 0} (xs : List X) (i : ℕ) → i < length xs → (x : X) × (slice_get xs i ≡ Some x)
read_within [] i inside = absurd (omega (arith, inside))
read_within (x ∷ xs) zero inside = (x, refl)
read_within (x ∷ xs) (suc i) inside = read_within xs i (omega (arith, inside))

-- what a test that asks twice says
both_true : (b c : Bool) → (if b then c else false) ≡ true → (b ≡ true) × (c ≡ true)
both_true true c e = (refl, e)
both_true false c e = absurd (true≢false (sym e))

module _ (rule : Rule) (K site stamp : ℕ) (heaps : IsHeaps K) (below : site < SITES) where
  abbrev next : State → Move → Operation
  next st move = operation_by st site (home_of K move) move

  abbrev moved : Move → Book → Book
  moved move b = if is_home move b then made_in site stamp move b else b

  -- ---- one move

  module _ (st : State) (world : IsWorld K (st.sets site)) (closed : IsClosed (st.sets site)) (move : Move) (sound : IsSoundMove move) (unspent : is_spent st site (home_of K move) ≡ false) where
    abbrev home : ℕ
    home = home_of K move

    is_made : IsMade K (st.sets site) (next st move)
    is_made = made_is K heaps [] site stamp below st move sound unspent

    pub world_after : IsWorld K (next st move ∷ st.sets site)
    world_after = making_world K (st.sets site) (next st move) world closed is_made

    pub world_then : IsWorld K ((after_move K site stamp move st).sets site)
    world_then = subst (IsWorld K) (sym (with_at_here st.sets site (next st move ∷ st.sets site))) world_after

    pub closed_then : IsClosed ((after_move K site stamp move st).sets site)
    closed_then = subst IsClosed (sym (with_at_here st.sets site (next st move ∷ st.sets site))) (making_closed K (st.sets site) (next st move) world closed is_made)

    module _ (h : ℕ) (b : Book) (is : IsBookOf rule K st site h b) where
      book_moved : is_home move b ≡ true → IsBookOf rule K (after_move K site stamp move st) site h (made_in site stamp move b)
      book_moved at_home =
          let here : home ≡ h = ap (heap_of move.key move.member) (sym is.heaps) ∙ eqb-true _ _ at_home ∙ is.heap in
          let image : image_after (operation_over b.heap b.state.vector site move.key move.member move.act) b.state ≡ image_of (next st move ∷ st.sets site) home
          = ap₂ (λ k (a : Image). image_after (operation_over k a.vector site move.key move.member move.act) a) (is.heap ∙ sym here) (is.state ∙ ap (image_of (st.sets site)) (sym here))
          ∙ sym (making_image K (st.sets site) (next st move) world closed is_made) in
          book_here rule K st site home stamp (st.made ++ next st move ∷ []) (next st move ∷ st.sets site) h b
          (image_after (operation_over b.heap b.state.vector site move.key move.member move.act) b.state) is (sym here) image (made_in site stamp move b) refl refl refl refl refl refl

      book_stays : is_home move b ≡ false → IsBookOf rule K (after_move K site stamp move st) site h b
      book_stays away =
          let apart : (h == home) ≡ false = false_from_ne_true (h == home) (λ e.
          true≢false (sym (eq-eqb _ _ (ap (heap_of move.key move.member) is.heaps ∙ sym (eqb-true h home e) ∙ sym is.heap)) ∙ away)) in
          book_there rule K st site home stamp (st.made ++ next st move ∷ []) (next st move ∷ st.sets site) h b is apart
          (same_elsewhere K (st.sets site) (next st move ∷ st.sets site) home h world_after apart (λ o i. inr i) (λ o i other. elim i [
            | inl e ↦ absurd (other (sym (ap (λ (x : Operation). x.heap) e)))
            | inr there ↦ there
          ]))

      book_then : IsBookOf rule K (after_move K site stamp move st) site h (moved move b)
      book_then =
          elim (is_home move b) as (λ c. is_home move b ≡ c → IsBookOf rule K (after_move K site stamp move st) site h (if c then made_in site stamp move b else b)) [
            | true ↦ λ e. book_moved e
            | false ↦ λ e. book_stays e
          ] refl

    pub books_then : (books : List Book) → AreBooksOf rule K st site books → AreBooksOf rule K (after_move K site stamp move st) site (made site stamp move books)
    books_then books are = record {
      number = length-map books (moved move) ∙ are.number;
      each = λ h b at.
          let from = mapped_at (moved move) books h b at in
          subst (IsBookOf rule K (after_move K site stamp move st) site h) from.2 (book_then h from.0 (are.each h from.0 from.1));
    }

  -- ---- moves, one after the other

  pub more_stand : (st : State) (move : Move) (moves : List Move) (n : ℕ) → n < standing K site stamp (move ∷ moves) st →
      (is_spent st site (home_of K move) ≡ false) × (standing K site stamp (move ∷ moves) st ≡ suc (standing K site stamp moves (after_move K site stamp move st)))
  more_stand st move moves n some =
      let rest = standing K site stamp moves (after_move K site stamp move st) in
      elim (is_spent st site (home_of K move)) as (λ c. n < (if c then 0 else suc rest) → (c ≡ false) × ((if c then 0 else suc rest) ≡ suc rest)) [
        | true ↦ λ none. absurd (omega (arith, none))
        | false ↦ λ _. (refl, refl)
      ] some

  pub books_moved : (moves : List Move) (st : State) (books : List Book) → IsWorld K (st.sets site) → IsClosed (st.sets site) → AreSound moves →
      standing K site stamp moves st ≡ length moves → AreBooksOf rule K st site books → AreBooksOf rule K (after_moves K site stamp moves st) site (books_after site stamp moves books)
  books_moved [] st books world closed sound all are = are
  books_moved (move ∷ moves) st books world closed sound all are =
      let its = sound move (inl refl) in
      let stands = more_stand st move moves (length moves) (omega (arith, all)) in
      books_moved moves (after_move K site stamp move st) (made site stamp move books) (world_then st world closed move its stands.0) (closed_then st world closed move its stands.0)
      (λ m i. sound m (inr i)) (let next_all = stands.1 in omega (arith, all, next_all)) (books_then st world closed move its stands.0 books are)

  pub standing_below : (moves : List Move) (st : State) → standing K site stamp moves st ≤ length moves
  standing_below [] st = omega arith
  standing_below (move ∷ moves) st =
      let rest = standing_below moves (after_move K site stamp move st) in
      elim (is_spent st site (home_of K move)) as (λ c. (if c then 0 else suc (standing K site stamp moves (after_move K site stamp move st))) ≤ suc (length moves)) [
        | true ↦ omega arith
        | false ↦ omega (arith, rest)
      ]

  -- ---- a book whose numbers are past their last values

  abbrev IsOver : Book → Type 0
  IsOver b = (LAST < slice_index b.state.vector site) ⊎ (LAST_COUNT < b.count)

  abbrev HasOver : List Book → Type 0
  HasOver books = (b : Book) × IsIn b books × IsOver b

  -- a counter that was set to the next one is no less than it was
  counter_rises : (v : List ℕ) → LAST < slice_index v site → LAST < slice_index (slice_set v site (slice_index v site + 1)) site
  counter_rises v over = elim (cases_lt site (length v)) [
    | inl inside ↦ let is = get_or-set_same v site (slice_index v site + 1) 0 inside in omega (arith, over, is)
    | inr past ↦ let is = get_or_past v site 0 past in absurd (omega (arith, over, is))
  ]

  over_moved : (move : Move) (b : Book) → IsOver b → IsOver (moved move b)
  over_moved move b over =
      elim (is_home move b) as (λ c. IsOver (if c then made_in site stamp move b else b)) [
        | true ↦ elim over [
          | inl counter ↦ inl (counter_rises b.state.vector counter)
          | inr count ↦ inr (omega (arith, count))
        ]
        | false ↦ over
      ]

  over_after : (moves : List Move) (books : List Book) → HasOver books → HasOver (books_after site stamp moves books)
  over_after [] books has = has
  over_after (move ∷ moves) books has = over_after moves (made site stamp move books) (moved move has.0, in_map (moved move) has.0 books has.1, over_moved move has.0 has.2)

  none_over : (books : List Book) → AreUnworn books → HasOver books → ⊥
  none_over books unworn has =
      let its = unworn has.0 has.1 in
      let most = its.0.bounded site in
      let few = its.1 in
      elim has.2 [
        | inl counter ↦ omega (arith, counter, most)
        | inr count ↦ omega (arith, count, few)
      ]

  spent_over : (st : State) (move : Move) (books : List Book) → AreBooksOf rule K st site books → is_spent st site (home_of K move) ≡ true → HasOver (made site stamp move books)
  spent_over st move books are spent =
      let home = home_of K move in
      let number = are.number in
      let low = heap_below K heaps move in
      let found = read_within books home (omega (arith, number, low)) in
      let b : Book = found.0 in
      let is = are.each home b found.1 in
      let at_home : is_home move b ≡ true = eq-eqb _ _ (ap (heap_of move.key move.member) is.heaps ∙ sym is.heap) in
      let wide : length b.state.vector ≡ SITES = ap (λ (a : Image). length a.vector) is.state ∙ length-by_site (last (st.sets site) home) in
      let same : slice_index b.state.vector site ≡ slice_index (vector_of (st.sets site) home) site = ap (λ (a : Image). slice_index a.vector site) is.state in
      let counted = is.count in
      let set = get_or-set_same b.state.vector site (slice_index b.state.vector site + 1) 0 (omega (arith, wide, below)) in
      let over : IsOver (made_in site stamp move b) = elim (or_cases (nat_le LAST (slice_index (vector_of (st.sets site) home) site)) (is_full st site home) spent) as (λ _. IsOver (made_in site stamp move b)) [
        | inl counter ↦ inl (let least = leb-true LAST (slice_index (vector_of (st.sets site) home) site) counter in omega (arith, least, same, set))
        | inr count ↦ inr (let least = leb-true LAST_COUNT (st.counts site home) count in omega (arith, least, counted))
      ] in (
        moved move b,
        in_map (moved move) b books (in_place books home b found.1),
        subst IsOver (sym (cond-true (is_home move b) (made_in site stamp move b) b at_home)) over,
      )

  -- moves that leave no number past its last value stand
  pub stand_so_far : (k : ℕ) (moves : List Move) (st : State) (books : List Book) → IsWorld K (st.sets site) → IsClosed (st.sets site) → AreSound moves → AreBooksOf rule K st site books →
      AreUnworn (books_after site stamp (take k moves) books) → k ≤ length moves → k ≤ standing K site stamp moves st
  stand_so_far zero moves st books world closed sound are unworn few = omega arith
  stand_so_far (suc k) [] st books world closed sound are unworn few = absurd (omega (arith, few))
  stand_so_far (suc k) (move ∷ moves) st books world closed sound are unworn few =
      let its = sound move (inl refl) in
      elim (is_spent st site (home_of K move)) as (λ c. is_spent st site (home_of K move) ≡ c → suc k ≤ (if c then 0 else suc (standing K site stamp moves (after_move K site stamp move st)))) [
        | true ↦ λ spent. absurd (none_over _ unworn (over_after (take k moves) (made site stamp move books) (spent_over st move books are spent)))
        | false ↦ λ unspent.
            let rest = stand_so_far k moves (after_move K site stamp move st) (made site stamp move books) (world_then st world closed move its unspent) (closed_then st world closed move its unspent)
            (λ m i. sound m (inr i)) (books_then st world closed move its unspent books are) unworn (omega (arith, few)) in
            omega (arith, rest)
      ] refl

  -- where the next one needs a number that is at its last value, no more stand
  pub stand_up_to : (k : ℕ) (moves : List Move) (st : State) (move : Move) → k ≤ standing K site stamp moves st → slice_get moves k ≡ Some move →
      is_spent (after_moves K site stamp (take k moves) st) site (home_of K move) ≡ true → standing K site stamp moves st ≡ k
  stand_up_to k [] st move some at spent = absurd (none-some move at)
  stand_up_to zero (first ∷ moves) st move some at spent =
      let same : first ≡ move = same_Some first move at in
      cond-true (is_spent st site (home_of K first)) 0 (suc (standing K site stamp moves (after_move K site stamp first st))) (ap (λ m. is_spent st site (home_of K m)) same ∙ spent)
  stand_up_to (suc k) (first ∷ moves) st move some at spent =
      let stands = more_stand st first moves k some in
      let more = stands.1 in
      stands.1 ∙ ap suc (stand_up_to k moves (after_move K site stamp first st) move (omega (arith, some, more)) at spent)

  -- ---- what a run of moves over the books says of the state

  pub all_stand : (moves : List Move) (st : State) (books new : List Book) → IsWorld K (st.sets site) → IsClosed (st.sets site) → AreSound moves → AreBooksOf rule K st site books →
      AreUnworn new → new ≡ books_after site stamp moves books → (standing K site stamp moves st ≡ length moves) × AreBooksOf rule K (after_moves K site stamp moves st) site new
  all_stand moves st books new world closed sound are unworn is =
      let most = standing_below moves st in
      let least = stand_so_far (length moves) moves st books world closed sound are
      (subst AreUnworn (is ∙ ap (λ ms. books_after site stamp ms books) (sym (take_all (length moves) moves (omega arith)))) unworn) (omega arith) in
      let all : standing K site stamp moves st ≡ length moves = omega (arith, most, least) in
      (all, subst (AreBooksOf rule K (after_moves K site stamp moves st) site) (sym is) (books_moved moves st books world closed sound all are))

  -- a book that is worn for a move
  worn_spent : (st : State) (books : List Book) (move : Move) → AreBooksOf rule K st site books → list_any (λ book. if is_home move book then is_worn site book else false) books ≡ true →
      is_spent st site (home_of K move) ≡ true
  worn_spent st books move are some =
      let found = any_some (λ book. if is_home move book then is_worn site book else false) books some in
      let b : Book = found.0 in
      let place = placed_in b books found.1 in
      let is = are.each place.0 b place.1 in
      let both = both_true (is_home move b) (is_worn site b) found.2 in
      let home : home_of K move ≡ place.0 = ap (heap_of move.key move.member) (sym is.heaps) ∙ eqb-true _ _ both.0 ∙ is.heap in
      let counter : slice_index (vector_of (st.sets site) place.0) site ≡ slice_index b.state.vector site = ap (λ (a : Image). slice_index a.vector site) (sym is.state) in
      let count = is.count in
      let worn : is_spent st site place.0 ≡ true = elim (or_cases (slice_index b.state.vector site == LAST) (b.count == LAST_COUNT) both.1) as (λ _. is_spent st site place.0 ≡ true) [
        | inl e ↦ let last = eqb-true _ _ e in or_left _ _ (le-leb LAST (slice_index (vector_of (st.sets site) place.0) site) (omega (arith, counter, last)))
        | inr e ↦ let last = eqb-true _ _ e in or_right _ _ (le-leb LAST_COUNT (st.counts site place.0) (omega (arith, count, last)))
      ] in
      ap (is_spent st site) home ∙ worn

  pub some_stand : (k : ℕ) (moves : List Move) (st : State) (books new : List Book) → IsWorld K (st.sets site) → IsClosed (st.sets site) → AreSound moves → AreBooksOf rule K st site books →
      AreUnworn new → k ≤ length moves → new ≡ books_after site stamp (take k moves) books → IsWhy site (slice_get moves k) new Number →
      (standing K site stamp moves st ≡ k) × AreBooksOf rule K (after_moves K site stamp (take k moves) st) site new
  some_stand k moves st books new world closed sound are unworn few is why =
      let ready = (all_stand (take k moves) st books new world closed (λ move i. sound move (in_taken move k moves i)) are unworn is).1 in
      let least = stand_so_far k moves st books world closed sound are (subst AreUnworn is unworn) few in
      elim (slice_get moves k) as (λ r. slice_get moves k ≡ r → IsWhy site r new Number →
      (standing K site stamp moves st ≡ k) × AreBooksOf rule K (after_moves K site stamp (take k moves) st) site new) [
        | None ↦ λ _ none. absurd none
        | Some move ↦ λ at worn. (stand_up_to k moves st move least at (worn_spent (after_moves K site stamp (take k moves) st) new move ready worn), ready)
      ] refl why

-- ---- what is done

module _ (K site stamp : ℕ) (plan : Plan) (cut : ℕ → Reply) (st : State) where
  pub done_whole : standing K site stamp plan.moves st ≡ length plan.moves →
      done_by K site stamp plan cut st ≡ record { now = after_moves K site stamp plan.moves st; reply = bytes_of plan.reply }
  done_whole all =
      let whole : (if length plan.moves == length plan.moves then plan.reply else cut (length plan.moves)) ≡ plan.reply
      = cond-true (length plan.moves == length plan.moves) plan.reply (cut (length plan.moves)) (eq-eqb _ _ refl) in
      ap (done_to K site stamp plan cut st) all ∙ (λ i. record { now = after_moves K site stamp (take_all (length plan.moves) plan.moves (omega arith) i) st; reply = bytes_of (whole i) })

  pub done_part : (k : ℕ) → standing K site stamp plan.moves st ≡ k → k < length plan.moves →
      done_by K site stamp plan cut st ≡ record { now = after_moves K site stamp (take k plan.moves) st; reply = bytes_of (cut k) }
  done_part k is few =
      let part : (if k == length plan.moves then plan.reply else cut k) ≡ cut k = cond-false (k == length plan.moves) plan.reply (cut k) (ne_eqb k (length plan.moves) (λ e. omega (arith, e, few))) in
      ap (done_to K site stamp plan cut st) is ∙ (λ i. record { now = after_moves K site stamp (take k plan.moves) st; reply = bytes_of (part i) })

-- there is a next one
pub why_some : (site k : ℕ) (moves : List Move) (books : List Book) → IsWhy site (slice_get moves k) books Number → k < length moves
why_some site k moves books why =
    elim (slice_get moves k) as (λ r. slice_get moves k ≡ r → IsWhy site r books Number → k < length moves) [
      | None ↦ λ _ none. absurd none
      | Some move ↦ λ at _. slice_get_within moves k move at
    ] refl why

-- the books of other sites stay
pub others_stay : (rule : Rule) (K site stamp other : ℕ) (moves : List Move) (st : State) (books : List Book) → (other == site) ≡ false → AreBooksOf rule K st other books → AreBooksOf rule K (after_moves K site stamp moves st) other books
others_stay rule K site stamp other [] st books apart are = are
others_stay rule K site stamp other (move ∷ moves) st books apart are =
    others_stay rule K site stamp other moves (after_move K site stamp move st) books apart
    (books_of_others rule K st site (home_of K move) stamp (st.made ++ operation_by st site (home_of K move) move ∷ []) (operation_by st site (home_of K move) move ∷ st.sets site) other books apart are)

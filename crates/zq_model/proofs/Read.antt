-- Scores and places in the queue over books.
use Rattle.std.proofs.Common.{Bool, Equal, Greater, Less, List, None, Option, Ordering, Some, [], ap, arith, cond, false, inl, inr, length, map, option_map, refl, subst, suc, sym, true, zero, ℕ, ℤ, ◌+◌, ◌-◌, ◌<◌, ◌∙◌, ◌∷◌, ◌≡◌, ◌⊎◌}
use Rattle.std.proofs.lemmas.List.Sums.{sum_by-cons}
use Rattle.std.proofs.lemmas.Option.{none-some, same_Some}
use Rattle.std.specs.Ordering.{is_lt, ordering_reverse}
use Rattle.std.specs.Prelude.{count_by, option_and_then, slice_get}
use Rattle.zq_model.specs.Books.{Book}
use Rattle.zq_model.proofs.Rising.{not_below_itself, rising_keys, scored_total}
use Rattle.zq_model.specs.Image.{entry_at}
use Rattle.zq_model.specs.Meaning.{IsRising, Scored, scored_cmp}
use Rattle.zq_model.specs.Rule.{Rule}
use Rattle.zq_model.specs.Score.{score_of}
use Rattle.zq_model.specs.Sets.{IsIn}
use Rattle.zq_model.proofs.Homes.{home_heap, home_one, home_score, lent_placed, score_here, told_queues}
use Rattle.zq_model.proofs.Told.{IsTold, told_score}
use Rattle.zq_model.specs.Lent.{AreLent, is_home_of, queues_of}
use Rattle.zq_model.specs.Moves.{Queue, score_in}
use Rattle.zq_model.specs.Readings.{is_before, rank_in, turned_rank_in}

-- a member's score in the queue over books is its score in the book of its heap
pub read_score : (rule : Rule) (K : ℕ) (books : List Book) (key m : List ℕ) (b : Book) → AreLent K books → IsIn b books → is_home_of key m b ≡ true →
    score_in (queues_of rule books key) m ≡ score_of rule (entry_at b.state.members (key, m))
read_score rule K books key m b are here home =
    let placed = lent_placed rule K books are in
    told_score (home_score rule key books) (queues_of rule books key) m (told_queues rule K books placed key)
    ∙ ap (option_and_then (score_here rule key m)) (home_one rule K books placed key m b here (home_heap rule K books placed key m b here home))

-- ---- places

pub in_place : {X : Type 0} (q : List X) (r : ℕ) (z : X) → slice_get q r ≡ Some z → IsIn z q
in_place [] r z is = absurd (none-some z is)
in_place (x ∷ q) zero z is = inl (same_Some x z is)
in_place (x ∷ q) (suc r) z is = inr (in_place q r z is)

-- what stands in a list stands at a place
pub placed_in : {X : Type 0} (x : X) (xs : List X) → IsIn x xs → (i : ℕ) × (slice_get xs i ≡ Some x)
placed_in x [] i = absurd i
placed_in x (y ∷ xs) (inl e) = (0, ap (λ z. Some z) e)
placed_in x (y ∷ xs) (inr there) = let rest = placed_in x xs there in (suc rest.0, rest.1)

abbrev number_of : Bool → ℕ
number_of b = cond b 1 0

abbrev ones : (Scored → Bool) → Scored → ℕ
ones p z = number_of (p z)

-- nothing in a list that is above z is before it
none_before : (q : Queue) (z : Scored) → ((y : Scored) → IsIn y q → scored_cmp z y ≡ Less) → count_by (λ y. is_before y z) q ≡ 0
none_before [] z above = refl
none_before (y ∷ q) z above =
    let rest = none_before q z (λ w here. above w (inr here)) in
    let first = sum_by-cons (ones (λ w. is_before w z)) y q in
    let turned : scored_cmp y z ≡ Greater = scored_total.antisymm y z ∙ ap ordering_reverse (above y (inl refl)) in
    let away : is_before y z ≡ false = ap is_lt turned in
    let zero_ : ones (λ w. is_before w z) y ≡ 0 = ap number_of away in
    omega (arith, rest, first, zero_)

not_before_itself : (z : Scored) → is_before z z ≡ false
not_before_itself z =
    elim (scored_cmp z z) as (λ r. scored_cmp z z ≡ r → is_lt r ≡ false) [
      | Less ↦ λ e. absurd (not_below_itself z e)
      | Equal ↦ λ e. refl
      | Greater ↦ λ e. refl
    ] refl

-- in a rising list as many are before an element as stand in front of it
before_place : (q : Queue) (r : ℕ) (z : Scored) → IsRising q → slice_get q r ≡ Some z → count_by (λ y. is_before y z) q ≡ r
before_place [] r z rising is = absurd (none-some z is)
before_place (x ∷ q) zero z rising is =
    let same : x ≡ z = same_Some x z is in
    let first = sum_by-cons (ones (λ w. is_before w z)) x q in
    let rest = none_before q z (λ y here. subst (λ w. scored_cmp w y ≡ Less) same (rising.0 y here)) in
    let zero_ : ones (λ w. is_before w z) x ≡ 0 = ap number_of (ap (λ w. is_before w z) same ∙ not_before_itself z) in
    omega (arith, first, rest, zero_)
before_place (x ∷ q) (suc r) z rising is =
    let first = sum_by-cons (ones (λ w. is_before w z)) x q in
    let rest = before_place q r z rising.1 is in
    let one : ones (λ w. is_before w z) x ≡ 1 = ap (λ r. number_of (is_lt r)) (rising.0 z (in_place q r z is)) in
    omega (arith, first, rest, one)

-- all of a list that is above z is after it
all_after : (q : Queue) (z : Scored) → ((y : Scored) → IsIn y q → scored_cmp z y ≡ Less) → count_by (λ y. is_before z y) q ≡ length q
all_after [] z above = refl
all_after (y ∷ q) z above =
    let rest = all_after q z (λ w here. above w (inr here)) in
    let first = sum_by-cons (ones (is_before z)) y q in
    let one : ones (is_before z) y ≡ 1 = ap (λ r. number_of (is_lt r)) (above y (inl refl)) in
    omega (arith, rest, first, one)

after_place : (q : Queue) (r : ℕ) (z : Scored) → IsRising q → slice_get q r ≡ Some z → count_by (λ y. is_before z y) q + r + 1 ≡ length q
after_place [] r z rising is = absurd (none-some z is)
after_place (x ∷ q) zero z rising is =
    let same : x ≡ z = same_Some x z is in
    let first = sum_by-cons (ones (is_before z)) x q in
    let rest = all_after q z (λ y here. subst (λ w. scored_cmp w y ≡ Less) same (rising.0 y here)) in
    let zero_ : ones (is_before z) x ≡ 0 = ap number_of (ap (is_before z) same ∙ not_before_itself z) in
    omega (arith, first, rest, zero_)
after_place (x ∷ q) (suc r) z rising is =
    let first = sum_by-cons (ones (is_before z)) x q in
    let rest = after_place q r z rising.1 is in
    let turned : scored_cmp z x ≡ Greater = scored_total.antisymm z x ∙ ap ordering_reverse (rising.0 z (in_place q r z is)) in
    let zero_ : ones (is_before z) x ≡ 0 = ap (λ r. number_of (is_lt r)) turned in
    omega (arith, first, rest, zero_)

module _ (rule : Rule) (K : ℕ) (books : List Book) (are : AreLent K books) (key : List ℕ) (r : ℕ) (x : ℤ) (m : List ℕ) (is : slice_get (queues_of rule books key) r ≡ Some (x, m)) where
  score_there : score_in (queues_of rule books key) m ≡ Some x
  score_there =
      let told = told_queues rule K books (lent_placed rule K books are) key in
      told_score (home_score rule key books) (queues_of rule books key) m told ∙ (told.members x m).0 (in_place (queues_of rule books key) r (x, m) is)

  -- a member's rank is its place in the queue
  pub read_rank : rank_in (queues_of rule books key) m ≡ Some r
  read_rank =
      ap (option_map (λ score. count_by (λ p. is_before p (score, m)) (queues_of rule books key))) score_there
      ∙ ap (λ n. Some n) (before_place (queues_of rule books key) r (x, m) (rising_keys _) is)

  -- and its rank from the end its place in the reverse
  pub read_turned_rank : turned_rank_in (queues_of rule books key) m ≡ Some (length (queues_of rule books key) - 1 - r)
  read_turned_rank =
      let after = after_place (queues_of rule books key) r (x, m) (rising_keys _) is in
      ap (option_map (λ score. count_by (λ p. is_before (score, m) p) (queues_of rule books key))) score_there
      ∙ ap (λ n. Some n) (omega (arith, after))

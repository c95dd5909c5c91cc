-- The queue over books is the queues of each put together, and counts over it are the sums of theirs.
use Rattle.std.proofs.Common.{Bool, Equal, Greater, Less, List, Ordering, Some, [], ap, arith, cond, false, inl, inr, length, map, refl, subst, sym, true, ℕ, ℤ, ◌+◌, ◌<◌, ◌∙◌, ◌∷◌, ◌≡◌, ◌⊎◌}
use Rattle.std.proofs.lemmas.List.Sums.{sum_by-cons}
use Rattle.std.specs.BTreeSet.{insert_key}
use Rattle.std.specs.Ordering.{match_ordering}
use Rattle.std.specs.Prelude.{count_by, sum_by}
use Rattle.zq_model.specs.Books.{Book}
use Rattle.zq_model.proofs.Listing.{in_map_from}
use Rattle.zq_model.proofs.Maps.{in_map}
use Rattle.zq_model.proofs.Queued.{queued_score, score_queued}
use Rattle.zq_model.proofs.Rising.{not_below_itself, rising_keys, rising_one, scored_exact}
use Rattle.zq_model.specs.Heaps.{heap_of}
use Rattle.zq_model.specs.Image.{Members, entry_at}
use Rattle.zq_model.specs.Meaning.{IsRising, Scored, scored_cmp}
use Rattle.zq_model.specs.Queue.{queue_of}
use Rattle.zq_model.specs.Rule.{Rule}
use Rattle.zq_model.specs.Score.{score_of}
use Rattle.zq_model.specs.Sets.{IsIn}
use Rattle.zq_model.proofs.Homes.{has_addition, lent_each, score_here}
use Rattle.zq_model.proofs.Lists.{in_insert, in_insert_from, rising_insert}
use Rattle.zq_model.specs.Lent.{AreLent, IsLent, queues_of}
use Rattle.zq_model.specs.Merging.{merged}
use Rattle.zq_model.specs.Moves.{Queue}

-- ---- queues put together

pub rising_merged : (r s : Queue) → IsRising s → IsRising (merged r s)
rising_merged [] s rising = rising
rising_merged (z ∷ r) s rising = rising_insert (merged r s) z (rising_merged r s rising)

pub in_merged_from : (r s : Queue) (y : Scored) → IsIn y (merged r s) → IsIn y r ⊎ IsIn y s
in_merged_from [] s y here = inr here
in_merged_from (z ∷ r) s y here = elim (in_insert_from (merged r s) z y here) [
  | inl same ↦ inl (inl same)
  | inr later ↦ elim (in_merged_from r s y later) [ inl first ↦ inl (inr first) | inr second ↦ inr second ]
]

pub in_merged : (r s : Queue) (y : Scored) → IsIn y r ⊎ IsIn y s → IsIn y (merged r s)
in_merged [] s y (inl none) = absurd none
in_merged [] s y (inr here) = here
in_merged (z ∷ r) s y (inl first) = in_insert (merged r s) z y (elim first [ inl same ↦ inl same | inr later ↦ inr (in_merged r s y (inl later)) ])
in_merged (z ∷ r) s y (inr second) = in_insert (merged r s) z y (inr (in_merged r s y (inr second)))

-- ---- counts

abbrev count_one : (Scored → Bool) → Scored → ℕ
count_one p z = cond (p z) 1 0

count_insert : (p : Scored → Bool) (q : Queue) (z : Scored) → (IsIn z q → ⊥) → count_by p (insert_key scored_cmp q z) ≡ count_one p z + count_by p q
count_insert p [] z new = sum_by-cons (count_one p) z []
count_insert p (x ∷ q) z new =
    elim (scored_cmp z x) as (λ r. scored_cmp z x ≡ r → count_by p (match_ordering r (z ∷ x ∷ q) (x ∷ q) (x ∷ insert_key scored_cmp q z)) ≡ count_one p z + count_by p (x ∷ q)) [
      | Less ↦ λ e. sum_by-cons (count_one p) z (x ∷ q)
      | Equal ↦ λ e. absurd (new (inl (sym (scored_exact z x e))))
      | Greater ↦ λ e.
          let rest = count_insert p q z (λ later. new (inr later)) in
          let first = sum_by-cons (count_one p) x (insert_key scored_cmp q z) in
          let second = sum_by-cons (count_one p) x q in
          omega (arith, rest, first, second)
    ] refl

length_insert : (q : Queue) (z : Scored) → (IsIn z q → ⊥) → length (insert_key scored_cmp q z) ≡ 1 + length q
length_insert [] z new = refl
length_insert (x ∷ q) z new =
    elim (scored_cmp z x) as (λ r. scored_cmp z x ≡ r → length (match_ordering r (z ∷ x ∷ q) (x ∷ q) (x ∷ insert_key scored_cmp q z)) ≡ 1 + length (x ∷ q)) [
      | Less ↦ λ e. omega arith
      | Equal ↦ λ e. absurd (new (inl (sym (scored_exact z x e))))
      | Greater ↦ λ e. let rest = length_insert q z (λ later. new (inr later)) in omega (arith, rest)
    ] refl

-- a pair is not among those that follow it, nor in the other queue
fresh : (z : Scored) (r s : Queue) → IsRising (z ∷ r) → ((y : Scored) → IsIn y (z ∷ r) → IsIn y s → ⊥) → IsIn z (merged r s) → ⊥
fresh z r s rising apart here = elim (in_merged_from r s z here) [
  | inl later ↦ not_below_itself z (rising.0 z later)
  | inr there ↦ apart z (inl refl) there
]

count_merged : (p : Scored → Bool) (r s : Queue) → IsRising r → ((y : Scored) → IsIn y r → IsIn y s → ⊥) → count_by p (merged r s) ≡ count_by p r + count_by p s
count_merged p [] s rising apart = omega arith
count_merged p (z ∷ r) s rising apart =
    let rest = count_merged p r s rising.1 (λ y here. apart y (inr here)) in
    let one = count_insert p (merged r s) z (fresh z r s rising apart) in
    let first = sum_by-cons (count_one p) z r in
    omega (arith, rest, one, first)

length_merged : (r s : Queue) → IsRising r → ((y : Scored) → IsIn y r → IsIn y s → ⊥) → length (merged r s) ≡ length r + length s
length_merged [] s rising apart = omega arith
length_merged (z ∷ r) s rising apart =
    let rest = length_merged r s rising.1 (λ y here. apart y (inr here)) in
    let one = length_insert (merged r s) z (fresh z r s rising apart) in
    omega (arith, rest, one)

-- ---- books

module _ (rule : Rule) (key : List ℕ) where
  abbrev queue_in : List Book → Queue
  queue_in books = queues_of rule books key

  -- what stands in the queue stands in one of the books
  queued_in : (books : List Book) (x : ℤ) (m : List ℕ) → IsIn (x, m) (queue_in books) → (b : Book) × IsIn b books × (score_here rule key m b ≡ Some x)
  queued_in books x m here =
      let found = queued_score rule key (map (λ (b : Book). b.state.members) books) x m here in
      let book = in_map_from (λ (b : Book). b.state.members) found.0 books found.1 in
      (book.0, book.1, ap (λ a. score_of rule (entry_at a (key, m))) book.2 ∙ found.2)

  in_queued : (books : List Book) (x : ℤ) (m : List ℕ) (b : Book) → IsIn b books → score_here rule key m b ≡ Some x → IsIn (x, m) (queue_in books)
  in_queued books x m b here is =
      score_queued rule key (map (λ (c : Book). c.state.members) books) x m b.state.members (in_map (λ (c : Book). c.state.members) b books here) is

  -- the queue over a book and others is that over the book put into that over the others
  pub queue_merged : (b : Book) (books : List Book) → queue_in (b ∷ books) ≡ merged (queue_in (b ∷ [])) (queue_in books)
  queue_merged b books = rising_one _ _ (rising_keys _) (rising_merged (queue_in (b ∷ [])) (queue_in books) (rising_keys _))
      (λ z here.
      let found = queued_in (b ∷ books) z.0 z.1 here in
      in_merged (queue_in (b ∷ [])) (queue_in books) z (elim found.1 [
        | inl same ↦ inl (in_queued (b ∷ []) z.0 z.1 b (inl refl) (ap (score_here rule key z.1) same ∙ found.2))
        | inr later ↦ inr (in_queued books z.0 z.1 found.0 later found.2)
      ]))
      (λ z here. elim (in_merged_from (queue_in (b ∷ [])) (queue_in books) z here) [
        | inl first ↦
            let found = queued_in (b ∷ []) z.0 z.1 first in
            in_queued (b ∷ books) z.0 z.1 found.0 (elim found.1 [ inl same ↦ inl same | inr none ↦ absurd none ]) found.2
        | inr second ↦ let found = queued_in books z.0 z.1 second in in_queued (b ∷ books) z.0 z.1 found.0 (inr found.1) found.2
      ])

  none_queued : queue_in [] ≡ []
  none_queued = rising_one _ _ (rising_keys _) tt (λ z here. absurd ((queued_in [] z.0 z.1 here).1)) (λ z none. absurd none)

  -- no member stands in two of the books
  queues_apart : (K : ℕ) (b : Book) (books : List Book) → AreLent K (b ∷ books) → (y : Scored) → IsIn y (queue_in (b ∷ [])) → IsIn y (queue_in books) → ⊥
  queues_apart K b books are y here there =
      let first = queued_in (b ∷ []) y.0 y.1 here in
      let second = queued_in books y.0 y.1 there in
      let in_first : IsLent K first.0 = elim first.1 [ inl same ↦ subst (IsLent K) same are.0 | inr none ↦ absurd none ] in
      let heap : b.heap ≡ first.0.heap = elim first.1 [ inl same ↦ ap (λ (c : Book). c.heap) same | inr none ↦ absurd none ] in
      let low = has_addition rule K first.0 key y.1 y.0 in_first first.2 in
      let high = has_addition rule K second.0 key y.1 y.0 (lent_each K books second.0 are.2 second.1) second.2 in
      let apart : b.heap < second.0.heap = are.1 second.0 second.1 in
      absurd (omega (arith, heap, low, high, apart))

  pub counted : (K : ℕ) (p : Scored → Bool) (books : List Book) → AreLent K books → count_by p (queue_in books) ≡ sum_by (λ b. count_by p (queue_in (b ∷ []))) books
  counted K p [] are = ap (count_by p) none_queued
  counted K p (b ∷ books) are =
      let rest = counted K p books are.2 in
      let all = ap (count_by p) (queue_merged b books) ∙ count_merged p (queue_in (b ∷ [])) (queue_in books) (rising_keys _) (queues_apart K b books are) in
      let first = sum_by-cons (λ c. count_by p (queue_in (c ∷ []))) b books in
      omega (arith, rest, all, first)

  pub measured : (K : ℕ) (books : List Book) → AreLent K books → length (queue_in books) ≡ sum_by (λ b. length (queue_in (b ∷ []))) books
  measured K [] are = ap length none_queued
  measured K (b ∷ books) are =
      let rest = measured K books are.2 in
      let all = ap length (queue_merged b books) ∙ length_merged (queue_in (b ∷ [])) (queue_in books) (rising_keys _) (queues_apart K b books are) in
      let first = sum_by-cons (λ c. length (queue_in (c ∷ []))) b books in
      omega (arith, rest, all, first)

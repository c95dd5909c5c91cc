-- The first pair of a queue: the least of the first pairs of each book's, and what is left when it is dropped.
use Rattle.std.proofs.Common.{Bool, Equal, Greater, Less, List, None, Option, Ordering, Some, [], ap, cond, false, inl, inr, nat_eq, not, refl, subst, sym, true, true≢false, ℕ, ℤ, ◌∙◌, ◌∷◌, ◌≡◌}
use Rattle.std.proofs.lemmas.Bool.{cond-false, cond-true, false_from_ne_true}
use Rattle.std.proofs.lemmas.Option.{same_Some}
use Rattle.std.specs.BTreeSet.{insert_key}
use Rattle.std.specs.Cmp.Lexicographic.{pointwise}
use Rattle.std.specs.Ordering.{is_lt, match_ordering}
use Rattle.std.specs.Prelude.{filter, if◌then◌else◌, slice_get}
use Rattle.zq_model.specs.Books.{Book}
use Rattle.zq_model.proofs.Places.{bytes_same, same_bytes}
use Rattle.zq_model.proofs.Rising.{not_below_itself, rising_keys, scored_total}
use Rattle.zq_model.specs.Meaning.{IsRising, Scored, scored_cmp}
use Rattle.zq_model.specs.Rule.{Rule}
use Rattle.zq_model.specs.Sets.{IsIn}
use Rattle.zq_model.proofs.Counted.{queue_merged}
use Rattle.zq_model.proofs.Homes.{home_score, lent_placed, told_queues}
use Rattle.zq_model.proofs.Told.{IsTold}
use Rattle.zq_model.specs.Lent.{AreLent, queues_of}
use Rattle.zq_model.specs.Merging.{least, merged}
use Rattle.zq_model.specs.Moves.{Queue, is_of, without}

-- ---- the first pair

head_insert : (q : Queue) (z : Scored) → slice_get (insert_key scored_cmp q z) 0 ≡ least (Some z) (slice_get q 0)
head_insert [] z = refl
head_insert (x ∷ q) z =
    elim (scored_cmp z x) as (λ r. slice_get (match_ordering r (z ∷ x ∷ q) (x ∷ q) (x ∷ insert_key scored_cmp q z)) 0 ≡ (if is_lt r then Some z else Some x)) [
      | Less ↦ refl
      | Equal ↦ refl
      | Greater ↦ refl
    ]

-- a pair below x goes before whatever goes before x
least_below : (z x : Scored) (y : Option Scored) → scored_cmp z x ≡ Less → least (Some z) (least (Some x) y) ≡ least (Some z) y
least_below z x None below = cond-true (is_lt (scored_cmp z x)) (Some z) (Some x) (ap is_lt below)
least_below z x (Some y) below =
    elim (scored_cmp x y) as (λ r. scored_cmp x y ≡ r → least (Some z) (if is_lt r then Some x else Some y) ≡ least (Some z) (Some y)) [
      | Less ↦ λ e.
          cond-true (is_lt (scored_cmp z x)) (Some z) (Some x) (ap is_lt below)
          ∙ sym (cond-true (is_lt (scored_cmp z y)) (Some z) (Some y) (ap is_lt (scored_total.trans z x y below e)))
      | Equal ↦ λ e. refl
      | Greater ↦ λ e. refl
    ] refl

head_merged : (r s : Queue) → IsRising r → slice_get (merged r s) 0 ≡ least (slice_get r 0) (slice_get s 0)
head_merged [] s rising = refl
head_merged (z ∷ []) s rising = head_insert s z
head_merged (z ∷ x ∷ r) s rising =
    head_insert (merged (x ∷ r) s) z ∙ ap (least (Some z)) (head_merged (x ∷ r) s rising.1) ∙ least_below z x (slice_get s 0) (rising.0 x (inl refl))

pub head_over : (rule : Rule) (key : List ℕ) (b : Book) (books : List Book) →
    slice_get (queues_of rule (b ∷ books) key) 0 ≡ least (slice_get (queues_of rule (b ∷ []) key) 0) (slice_get (queues_of rule books key) 0)
head_over rule key b books =
    ap (λ q. slice_get q 0) (queue_merged rule key b books) ∙ head_merged (queues_of rule (b ∷ []) key) (queues_of rule books key) (rising_keys _)

-- ---- what is left without it

-- nothing goes where nothing is the member's
filter_kept : (m : List ℕ) (q : Queue) → ((y : Scored) → IsIn y q → is_of m y ≡ false) → without q m ≡ q
filter_kept m [] none = refl
filter_kept m (x ∷ q) none =
    cond-true (not (is_of m x)) (x ∷ without q m) (without q m) (ap not (none x (inl refl))) ∙ ap (λ r. x ∷ r) (filter_kept m q (λ y here. none y (inr here)))

-- the member of the first pair stands in no other
only_first : (f : List ℕ → Option ℤ) (x : Scored) (q : Queue) → IsTold f (x ∷ q) → (y : Scored) → IsIn y q → is_of x.1 y ≡ false
only_first f x q told y here = false_from_ne_true (is_of x.1 y) (λ its.
    let member : y.1 ≡ x.1 = same_bytes y.1 x.1 its in
    let first = (told.members x.0 x.1).0 (inl refl) in
    let second = (told.members y.0 y.1).0 (inr here) in
    let scores : x.0 ≡ y.0 = same_Some x.0 y.0 (sym first ∙ ap f (sym member) ∙ second) in
    let same : x ≡ y = λ i. (scores i, sym member i) in
    absurd (not_below_itself x (subst (λ z. scored_cmp x z ≡ Less) (sym same) (told.rising.0 y here))))

without_first : (f : List ℕ → Option ℤ) (x : Scored) (q : Queue) → IsTold f (x ∷ q) → without (x ∷ q) x.1 ≡ q
without_first f x q told =
    cond-false (not (is_of x.1 x)) (x ∷ without q x.1) (without q x.1) (ap not (bytes_same x.1 x.1 refl)) ∙ filter_kept x.1 q (only_first f x q told)

pub rest_over : (rule : Rule) (K : ℕ) (books : List Book) → AreLent K books → (key : List ℕ) (first : Scored) (rest : Queue) → queues_of rule books key ≡ first ∷ rest →
    without (queues_of rule books key) first.1 ≡ rest
rest_over rule K books are key first rest is =
    ap (λ q. without q first.1) is
    ∙ without_first (home_score rule key books) first rest (subst (IsTold (home_score rule key books)) is (told_queues rule K books (lent_placed rule K books are) key))

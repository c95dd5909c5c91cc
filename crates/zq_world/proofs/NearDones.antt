-- ZPOPNEAR over the one book that it pops: what it makes of a site's books, and of the list of what was made.

use Rattle.std.proofs.Common.{Bool, List, None, Option, Some, [], ap, arith, false, inl, inr, length, max, min, mod-lt, option_map, refl, subst, suc, sym, true, true≢false, zero, ℕ, ◌%◌, ◌++◌, ◌+◌, ◌-◌, ◌<◌, ◌∙◌, ◌∷◌, ◌≡◌, ◌≤◌}
use Rattle.std.proofs.lemmas.List.{take_all}
use Rattle.std.proofs.lemmas.Option.{same_Some}
use Rattle.std.specs.Prelude.{if◌then◌else◌, slice_get, slice_set, take}
use Rattle.zq_commands.proofs.FirstPairs.{pair_home}
use Rattle.zq_commands.specs.Lending.{IsLending, Lending, told_by}
use Rattle.zq_commands.specs.Running.{EndsOver, lent_after_all, part, told_after, whole}
use Rattle.zq_commands.specs.VecBooks.{heaps_in, lending_of, rule_in}
use Rattle.zq_dots.specs.Placed.{Placed}
use Rattle.zq_model.specs.Books.{Book}
use Rattle.zq_model.proofs.Membership.{any_in, any_some}
use Rattle.zq_model.specs.Bounded.{IsBounded}
use Rattle.zq_model.specs.Meaning.{Scored}
use Rattle.zq_model.specs.Operation.{Drop, Operation}
use Rattle.zq_model.specs.Queue.{queue_of}
use Rattle.zq_model.specs.Rule.{Rule}
use Rattle.zq_model.specs.Sets.{IsIn, IsWorld}
use Rattle.zq_model.proofs.Homes.{lent_each}
use Rattle.zq_model.proofs.Read.{in_place}
use Rattle.zq_model.specs.Lent.{is_home, queues_of}
use Rattle.zq_model.specs.Moves.{Move, Queue, Queues}
use Rattle.zq_semantics.specs.Plan.{Plan, drops, is_there, plan_of}
use Rattle.zq_semantics.specs.Replies.{bytes_of}
use Rattle.zq_semantics.specs.Run.{ForCopies, IsWhy, Memory, Number, cut_reply, is_worn}
use Rattle.zq_semantics.proofs.MovedBooks.{read_within, why_some}
use Rattle.zq_semantics.proofs.NearBooks.{alone_is, same_plan}
use Rattle.zq_semantics.proofs.SiteBooks.{queues_are}
use Rattle.zq_semantics.specs.Books.{AreBooksOf}
use Rattle.zq_semantics.specs.Doing.{drawn, first_drawn, queues_for, second_drawn}
use Rattle.zq_semantics.specs.Reading.{heaps_in as heaps_of_all, queues_over}
use Rattle.zq_semantics.specs.State.{State}
use Rattle.zq_words.specs.Command.{Zpopnear}
use Rattle.zq_words.specs.Words.{Word}
use Rattle.zq_world.proofs.Homes.{only_told}
use Rattle.zq_world.specs.Near.{near_queue}
use Rattle.zq_world.specs.Told.{lending_told, operations_in}

-- ---- one book of those that are lent

pub alone_lending : (books : List Book) (place : ℕ) (old : Book) → slice_get books place ≡ Some old → IsLending (lending_of books) → IsLending (lending_of (old ∷ []))
alone_lending books place old at lent =
    let its = lent_each (heaps_in books) books old lent.books (in_place books place old at) in
    record {
      books = (record { heaps = refl; bounded = subst (λ (K : ℕ). IsBounded K old.heap old.state) (sym its.heaps) its.bounded }, (λ later none. absurd none), tt);
      ruled = λ book here. elim here [ inl same ↦ subst (λ (b : Book). b.rule ≡ old.rule) same refl | inr none ↦ absurd none ];
    }

-- ---- a book set among others

rule_set : (books : List Book) (h : ℕ) (old new : Book) → slice_get books h ≡ Some old → new.rule ≡ old.rule → rule_in (slice_set books h new) ≡ rule_in books
rule_set [] h old new at same = refl
rule_set (b ∷ books) zero old new at same = same ∙ ap (λ (c : Book). c.rule) (sym (same_Some b old at))
rule_set (b ∷ books) (suc h) old new at same = refl

heaps_set : (books : List Book) (h : ℕ) (old new : Book) → slice_get books h ≡ Some old → new.heaps ≡ old.heaps → heaps_in (slice_set books h new) ≡ heaps_in books
heaps_set [] h old new at same = refl
heaps_set (b ∷ books) zero old new at same = same ∙ ap (λ (c : Book). c.heaps) (sym (same_Some b old at))
heaps_set (b ∷ books) (suc h) old new at same = refl

in_set : (books : List Book) (h : ℕ) (old new : Book) → slice_get books h ≡ Some old → IsIn new (slice_set books h new)
in_set [] h old new at = absurd (cc)
in_set (b ∷ books) zero old new at = inl refl
in_set (b ∷ books) (suc h) old new at = inr (in_set books h old new at)

-- why a book cannot make the next move alone is why it cannot among others
why_set : (site : ℕ) (next : Option Move) (books : List Book) (h : ℕ) (old new : Book) → slice_get books h ≡ Some old → IsWhy site next (new ∷ []) Number → IsWhy site next (slice_set books h new) Number
why_set site None books h old new at why = why
why_set site (Some move) books h old new at why =
    let test : Book → Bool = λ book. if is_home move book then is_worn site book else false in
    let found = any_some test (new ∷ []) why in
    any_in test (slice_set books h new) new (in_set books h old new at) (elim found.1 [
      | inl same ↦ subst (λ (b : Book). test b ≡ true) (sym same) found.2
      | inr none ↦ absurd none
    ])

-- ---- the book alone, and among the others

module _ (rule : Rule) (K site stamp : ℕ) (st : State) (books : List Book) (world : IsWorld K (st.sets site)) (are : AreBooksOf rule K st site books)
    (lent : IsLending (lending_of books)) (h : ℕ) (old : Book) (at : slice_get books h ≡ Some old) (key : Word) where
  -- the queues over the book alone
  abbrev its : Queues
  its = queues_of rule (old ∷ [])

  alone : IsLending (lending_of (old ∷ []))
  alone = alone_lending books h old at lent

  abbrev drop_of : Scored → Move
  drop_of p = record { key = key; member = p.1; act = Drop }

  -- a pair of the book is at home there
  at_home : (p : Scored) → IsIn p (its key) → is_home (drop_of p) old ≡ true
  at_home p here =
      let home = pair_home (lending_of (old ∷ [])) alone key p.0 p.1 (subst (λ (r : Rule). IsIn p (queues_of r (old ∷ []) key)) (sym (are.each h old at).ruled) here) in
      elim home.1 [
        | inl same ↦ subst (λ (b : Book). is_home (drop_of p) b ≡ true) (sym same) home.2
        | inr none ↦ absurd none
      ]

  one_told : (p : Scored) → is_home (drop_of p) old ≡ true → (told : Option (List Operation)) → told_by site (drop_of p) (old ∷ []) told ≡ told_by site (drop_of p) books told
  one_told p home told =
      let here = only_told site stamp (drop_of p) (heaps_in (old ∷ [])) (old ∷ []) 0 old alone.books refl home in
      let there = only_told site stamp (drop_of p) (heaps_in books) books h old lent.books at home in
      ap (λ (ops : List Operation). option_map (λ before. before ++ ops) told) (here ∙ sym there)

  -- a pop of one pair tells the same
  same_told : (q : Queue) → ((p : Scored) → IsIn p q → is_home (drop_of p) old ≡ true) → (k : ℕ) (told : Option (List Operation)) →
      told_after site stamp (take k (drops key (take 1 q))) (old ∷ []) told ≡ told_after site stamp (take k (drops key (take 1 q))) books told
  same_told [] homes zero told = refl
  same_told [] homes (suc k) told = refl
  same_told (p ∷ q) homes zero told = refl
  same_told (p ∷ q) homes (suc zero) told = one_told p (homes p (inl refl)) told
  same_told (p ∷ q) homes (suc (suc k)) told = one_told p (homes p (inl refl)) told

  lent_wide : (k : ℕ) (new : Book) (made told : List Placed) → lending_told (new ∷ []) told ≡ lent_after_all site stamp (take k (plan_of (Zpopnear key) its).moves) (lending_told (old ∷ []) made) →
      lending_told (slice_set books h new) told ≡ lent_after_all site stamp (take k (plan_of (Zpopnear key) its).moves) (lending_told books made)
  lent_wide k new made told is =
      let ruled = rule_set books h old new at (ap (λ (l : Lending). l.rule) is) in
      let number = heaps_set books h old new at (ap (λ (l : Lending). l.heaps) is) in
      let set = alone_is rule K st site stamp books world are h old at key k new (ap (λ (l : Lending). l.books) is) in
      let tells = ap (λ (l : Lending). l.told) is ∙ same_told (its key) at_home k (Some (operations_in made)) in
      λ i. record { rule = ruled i; heaps = number i; books = set i; told = tells i }

  -- how many moves a pop of one pair has
  few_moves : (q : Queue) → length (drops key (take 1 q)) ≤ 1
  few_moves [] = omega arith
  few_moves (p ∷ q) = omega arith

  -- a run over the book alone that no memory cut is one over all, of each plan that pops the same pair
  pub ran_wide : (all : Queues) → slice_get (its key) 0 ≡ slice_get (all key) 0 → (new : Book) (made told : List Placed) (reply : Word) →
      EndsOver site stamp ForCopies (plan_of (Zpopnear key) its) (cut_reply (Zpopnear key) its) (lending_told (old ∷ []) made) (lending_told (new ∷ []) told) reply false →
      EndsOver site stamp ForCopies (plan_of (Zpopnear key) all) (cut_reply (Zpopnear key) all) (lending_told books made) (lending_told (slice_set books h new) told) reply false
  ran_wide all first new made told reply (whole is says) =
      let plan = same_plan key its all first in
      let moves = (plan_of (Zpopnear key) its).moves in
      let ran = lent_wide (length moves) new made told (is ∙ ap (λ (ms : List Move). lent_after_all site stamp ms (lending_told (old ∷ []) made)) (sym (take_all (length moves) moves (omega arith)))) in
      whole (ran ∙ ap (λ (ms : List Move). lent_after_all site stamp ms (lending_told books made)) (take_all (length moves) moves (omega arith) ∙ ap (λ (p : Plan). p.moves) plan))
      (says ∙ ap (λ (p : Plan). bytes_of p.reply) plan)
  ran_wide all first new made told reply (part k Memory low is why says memory) = absurd (true≢false (sym (memory refl)))
  ran_wide all first new made told reply (part k Number low is why says memory) =
      let plan = same_plan key its all first in
      let moves = (plan_of (Zpopnear key) its).moves in
      let few = few_moves (its key) in
      let some = why_some site k moves (new ∷ []) why in
      let none : k ≡ 0 = omega (arith, some, few) in
      part k Number (subst (λ (p : Plan). k ≤ length p.moves) plan low)
      (lent_wide k new made told is ∙ ap (λ (p : Plan). lent_after_all site stamp (take k p.moves) (lending_told books made)) plan)
      (subst (λ (p : Plan). IsWhy site (slice_get p.moves k) (slice_set books h new) Number) plan (why_set site (slice_get moves k) books h old new at why))
      (says ∙ ap (λ n. bytes_of (cut_reply (Zpopnear key) its n Number)) none ∙ ap (λ n. bytes_of (cut_reply (Zpopnear key) all n Number)) (sym none))
      (λ is_memory. absurd (cc))

-- ---- the pair that is popped

module _ (rule : Rule) (K : ℕ) (st : State) (site : ℕ) (books : List Book) (are : AreBooksOf rule K st site books) where
  pub one_is : (h : ℕ) (b : Book) → slice_get books h ≡ Some b → queues_of rule (b ∷ []) ≡ queues_over rule (st.sets site) (h ∷ [])
  one_is h b at = let state = (are.each h b at).state in λ i key. queue_of rule key ((state i).members ∷ [])

  two_are : (h k : ℕ) (low high : Book) → slice_get books h ≡ Some low → slice_get books k ≡ Some high → queues_of rule (low ∷ high ∷ []) ≡ queues_over rule (st.sets site) (h ∷ k ∷ [])
  two_are h k low high at_low at_high =
      let first = (are.each h low at_low).state in
      let second = (are.each k high at_high).state in
      λ i key. queue_of rule key ((first i).members ∷ (second i).members ∷ [])

  either_queue : (b : Bool) (near all : Queues) (key : Word) → (if b then near key else all key) ≡ (if b then near else all) key
  either_queue true near all key = refl
  either_queue false near all key = refl

  pub near_is : (w1 w2 : ℕ) (key : Word) (low high : Book) →
      slice_get books (min (first_drawn K w1) (second_drawn K w1 w2)) ≡ Some low → slice_get books (max (first_drawn K w1) (second_drawn K w1 w2)) ≡ Some high →
      near_queue rule low high books key ≡ queues_for rule K (st.sets site) w1 w2 (Zpopnear key) key
  near_is w1 w2 key low high at_low at_high =
      let near = two_are (min (first_drawn K w1) (second_drawn K w1 w2)) (max (first_drawn K w1) (second_drawn K w1 w2)) low high at_low at_high in
      let all = queues_are rule K st site books are in
      (λ i. if is_there (near i key) then near i key else all i key)
      ∙ either_queue (is_there (queues_over rule (st.sets site) (drawn K w1 w2) key)) (queues_over rule (st.sets site) (drawn K w1 w2)) (queues_over rule (st.sets site) (heaps_of_all K)) key

  drawn_below : (w1 w2 : ℕ) → 2 ≤ K → (first_drawn K w1 < K) × (second_drawn K w1 w2 < K)
  drawn_below w1 w2 two = (mod-lt w1 (omega (arith, two)), mod-lt (first_drawn K w1 + 1 + w2 % (K - 1)) (omega (arith, two)))

  -- the first pair of the book that ran is that of the queues for the command
  pub first_for : (w1 w2 : ℕ) (key : Word) (old : Book) → 2 ≤ K → rule_in books ≡ rule →
      ((low high : Book) → slice_get books (min (first_drawn (length books) w1) (second_drawn (length books) w1 w2)) ≡ Some low →
      slice_get books (max (first_drawn (length books) w1) (second_drawn (length books) w1 w2)) ≡ Some high →
      slice_get (queues_of (rule_in books) (old ∷ []) key) 0 ≡ slice_get (near_queue (rule_in books) low high books key) 0) →
      slice_get (queues_of rule (old ∷ []) key) 0 ≡ slice_get (queues_for rule K (st.sets site) w1 w2 (Zpopnear key) key) 0
  first_for w1 w2 key old two ruled first =
      let number = are.number in
      let below = drawn_below w1 w2 two in
      let one = first_drawn K w1 in
      let other = second_drawn K w1 w2 in
      let low = read_within books (min one other) (omega (arith, number, below.0, below.1)) in
      let high = read_within books (max one other) (omega (arith, number, below.0, below.1)) in
      let at_low = ap (λ n. slice_get books (min (first_drawn n w1) (second_drawn n w1 w2))) number ∙ low.1 in
      let at_high = ap (λ n. slice_get books (max (first_drawn n w1) (second_drawn n w1 w2))) number ∙ high.1 in
      subst (λ (r : Rule). slice_get (queues_of r (old ∷ []) key) 0 ≡ slice_get (near_queue r low.0 high.0 books key) 0) ruled (first low.0 high.0 at_low at_high)
      ∙ ap (λ (q : Queue). slice_get q 0) (near_is w1 w2 key low.0 high.0 low.1 high.1)

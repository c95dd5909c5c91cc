-- The parts of a command, one after the other.

use Rattle.std.proofs.lemmas.Option.{same_Some}
use Rattle.std.specs.Prelude.{List, Option, Some, [], drop, if◌then◌else◌, length, refl, slice_get, take, ℕ, ◌++◌, ◌+◌, ◌∷◌, ◌≡◌, ◌≤◌}
use Rattle.std.proofs.Common.{ap, arith, suc, sym, zero, zero-add, ◌∙◌}
use Rattle.std.proofs.Math.Seq.{take-append_seam}
use Rattle.std.proofs.lemmas.List.{append-nil, append_assoc, length-append, take_all, take-append-drop}
use Rattle.zq_commands.specs.Lending.{Lending, queues_in, told_by}
use Rattle.zq_commands.specs.Running.{lent_after_all, told_after}
use Rattle.zq_commands.specs.Stepping.{Steps}
use Rattle.zq_commands.specs.declared.made.Made.{Made}
use Rattle.zq_model.specs.Books.{Book}
use Rattle.zq_model.specs.Operation.{Operation}
use Rattle.zq_model.specs.Lent.{books_after, made}
use Rattle.zq_model.specs.Moves.{Move, Queues, after, after_all}
use Rattle.zq_semantics.specs.Plan.{Part, count_in_turn, moves_in_turn}

pub take_next : {X : Type 0} (xs : List X) (i : ℕ) (x : X) → slice_get xs i ≡ Some x → take (i + 1) xs ≡ take i xs ++ x ∷ []
take_next [] i x at = cc
take_next (y ∷ xs) zero x at = ap (λ z. z ∷ []) (same_Some y x at)
take_next (y ∷ xs) (suc i) x at = let next : suc i + 1 ≡ suc (i + 1) = omega arith in ap (λ n. take n (y ∷ xs)) next ∙ ap (λ ys. y ∷ ys) (take_next xs i x at)

pub after_all-append : (xs ys : List Move) (s : Queues) → after_all (xs ++ ys) s ≡ after_all ys (after_all xs s)
after_all-append [] ys s = refl
after_all-append (x ∷ xs) ys s = after_all-append xs ys (after x s)

books-append : (site stamp : ℕ) (xs ys : List Move) (books : List Book) → books_after site stamp (xs ++ ys) books ≡ books_after site stamp ys (books_after site stamp xs books)
books-append site stamp [] ys books = refl
books-append site stamp (x ∷ xs) ys books = books-append site stamp xs ys (made site stamp x books)

told-append : (site stamp : ℕ) (xs ys : List Move) (books : List Book) (told : Option (List Operation)) →
    told_after site stamp (xs ++ ys) books told ≡ told_after site stamp ys (books_after site stamp xs books) (told_after site stamp xs books told)
told-append site stamp [] ys books told = refl
told-append site stamp (x ∷ xs) ys books told = told-append site stamp xs ys (made site stamp x books) (told_by site x books told)

pub lent-append : (site stamp : ℕ) (xs ys : List Move) (s : Lending) → lent_after_all site stamp (xs ++ ys) s ≡ lent_after_all site stamp ys (lent_after_all site stamp xs s)
lent-append site stamp xs ys s = λ i. record s { books = books-append site stamp xs ys s.books i; told = told-append site stamp xs ys s.books s.told i }

module _ {X : Type 0} (f : Queues → X → Part) where
  moves-append : (xs ys : List X) (s : Queues) → moves_in_turn f (xs ++ ys) s ≡ moves_in_turn f xs s ++ moves_in_turn f ys (after_all (moves_in_turn f xs s) s)
  moves-append [] ys s = refl
  moves-append (x ∷ xs) ys s =
      ap (λ ms. (f s x).moves ++ ms) (moves-append xs ys (after_all (f s x).moves s))
      ∙ sym (append_assoc (f s x).moves (moves_in_turn f xs (after_all (f s x).moves s)) (moves_in_turn f ys (after_all (moves_in_turn f xs (after_all (f s x).moves s)) (after_all (f s x).moves s))))
      ∙ ap (λ t. ((f s x).moves ++ moves_in_turn f xs (after_all (f s x).moves s)) ++ moves_in_turn f ys t)
      (sym (after_all-append (f s x).moves (moves_in_turn f xs (after_all (f s x).moves s)) s))

  count-append : (xs ys : List X) (s : Queues) → count_in_turn f (xs ++ ys) s ≡ count_in_turn f xs s + count_in_turn f ys (after_all (moves_in_turn f xs s) s)
  count-append [] ys s = sym (zero-add (count_in_turn f ys s))
  count-append (x ∷ xs) ys s =
      let rest = count-append xs ys (after_all (f s x).moves s) in
      let same = ap (λ t. count_in_turn f ys t) (after_all-append (f s x).moves (moves_in_turn f xs (after_all (f s x).moves s)) s) in
      omega (arith, rest, same)

  module _ (site stamp : ℕ) where
    -- where a loop over the parts stands: after the first i of them
    pub record StandsAfter (xs : List X) (i : ℕ) (s t : Lending) (counted done : ℕ) : Type 0 where
      pub lent : t ≡ lent_after_all site stamp (moves_in_turn f (take i xs) (queues_in s)) s
      pub queues : queues_in t ≡ after_all (moves_in_turn f (take i xs) (queues_in s)) (queues_in s)
      pub count : counted ≡ count_in_turn f (take i xs) (queues_in s)
      pub made : done ≡ length (moves_in_turn f (take i xs) (queues_in s))

    pub stands_first : (xs : List X) (s : Lending) → StandsAfter xs 0 s s 0 0
    stands_first xs s = record { lent = refl; queues = refl; count = refl; made = refl }

    -- one part more
    pub stands_next : (xs : List X) (i : ℕ) (x : X) (s t u : Lending) (counted done : ℕ) (more : Made) → StandsAfter xs i s t counted done → slice_get xs i ≡ Some x →
        Steps site stamp (f (queues_in t) x) t u more → StandsAfter xs (i + 1) s u (counted + more.counted) (done + more.moves)
    stands_next xs i x s t u counted done more here at step =
        let front = take i xs in
        let q = queues_in s in
        let longer : take (i + 1) xs ≡ front ++ x ∷ [] = take_next xs i x at in
        let moves : moves_in_turn f (take (i + 1) xs) q ≡ moves_in_turn f front q ++ (f (queues_in t) x).moves =
        ap (λ ys. moves_in_turn f ys q) longer ∙ moves-append front (x ∷ []) q ∙ ap (λ v. moves_in_turn f front q ++ ((f v x).moves ++ [])) (sym here.queues)
        ∙ ap (λ ms. moves_in_turn f front q ++ ms) (append-nil (f (queues_in t) x).moves) in
        record {
          lent = step.lent ∙ ap (λ v. lent_after_all site stamp (f (queues_in t) x).moves v) here.lent
              ∙ sym (lent-append site stamp (moves_in_turn f front q) (f (queues_in t) x).moves s) ∙ ap (λ ms. lent_after_all site stamp ms s) (sym moves);
          queues = step.queues ∙ ap (λ v. after_all (f (queues_in t) x).moves v) here.queues ∙ sym (after_all-append (moves_in_turn f front q) (f (queues_in t) x).moves q) ∙ ap (λ ms. after_all ms q) (sym moves);
          count =
              let both = ap (λ ys. count_in_turn f ys q) longer ∙ count-append front (x ∷ []) q in
              let last = ap (λ v. (if (f v x).is_counted then 1 else 0) + 0) (sym here.queues) in
              omega (arith, both, last, here.count, step.counted);
          made = omega (arith, ap length moves, length-append (moves_in_turn f front q) (f (queues_in t) x).moves, here.made, step.moves);
        }

    -- after all of them
    pub stands_whole : (xs : List X) (s t : Lending) (counted done : ℕ) → StandsAfter xs (length xs) s t counted done →
        (t ≡ lent_after_all site stamp (moves_in_turn f xs (queues_in s)) s) × (counted ≡ count_in_turn f xs (queues_in s))
    stands_whole xs s t counted done here =
        let all : take (length xs) xs ≡ xs = take_all (length xs) xs (omega arith) in
        (here.lent ∙ ap (λ ys. lent_after_all site stamp (moves_in_turn f ys (queues_in s)) s) all, here.count ∙ ap (λ ys. count_in_turn f ys (queues_in s)) all)

    -- what the parts before and after the next one make together
    pub moves_split : (xs : List X) (i : ℕ) (s t : Lending) (counted done : ℕ) → StandsAfter xs i s t counted done →
        moves_in_turn f xs (queues_in s) ≡ moves_in_turn f (take i xs) (queues_in s) ++ moves_in_turn f (drop i xs) (queues_in t)
    moves_split xs i s t counted done here =
        ap (λ ys. moves_in_turn f ys (queues_in s)) (sym (take-append-drop i xs)) ∙ moves-append (take i xs) (drop i xs) (queues_in s)
        ∙ ap (λ v. moves_in_turn f (take i xs) (queues_in s) ++ moves_in_turn f (drop i xs) v) (sym here.queues)

    -- what stands where the next part was refused: the first moves of all
    pub stands_cut : (xs : List X) (i : ℕ) (s t : Lending) (counted done : ℕ) → StandsAfter xs i s t counted done →
        (done ≤ length (moves_in_turn f xs (queues_in s))) × (t ≡ lent_after_all site stamp (take done (moves_in_turn f xs (queues_in s))) s)
    stands_cut xs i s t counted done here =
        let front = moves_in_turn f (take i xs) (queues_in s) in
        let rest = moves_in_turn f (drop i xs) (queues_in t) in
        let both : moves_in_turn f xs (queues_in s) ≡ front ++ rest = moves_split xs i s t counted done here in (
          omega (arith, here.made, ap length both, length-append front rest),
          here.lent ∙ ap (λ ms. lent_after_all site stamp ms s) (sym (ap (λ ms. take done ms) both ∙ ap (λ n. take n (front ++ rest)) here.made ∙ take-append_seam front rest)),
        )

-- Where a pop stands after some of its pairs, and what it comes to.

use Rattle.std.proofs.Common.{Bool, List, [], ap, arith, drop, flat_map, length, map, refl, subst, suc, sym, true, zero, ℕ, ◌++◌, ◌+◌, ◌<◌, ◌∙◌, ◌∷◌, ◌≡◌, ◌≤◌}
use Rattle.std.proofs.lemmas.List.{length-map, length-take, map-append, take-map, take-take, take_all}
use Rattle.std.specs.Prelude.{Some, decimal, slice_get, take}
use Rattle.zq_commands.proofs.InTurn.{lent-append, take_next}
use Rattle.zq_commands.specs.Arrays.{array_bytes}
use Rattle.zq_commands.specs.Stopped.{want_of}
use Rattle.zq_commands.specs.FirstPairs.{PopsFirst, drop_of}
use Rattle.zq_commands.specs.Lending.{Lending, lent_after, queues_in}
use Rattle.zq_commands.specs.Running.{EndsOver, lent_after_all, part, whole}
use Rattle.zq_commands.specs.declared.stopped.Stopped.{Stopped}
use Rattle.zq_commands.specs.declared.stopped.Stopped.TheVariants.{NoMemory, Worn}
use Rattle.zq_model.specs.Meaning.{Scored}
use Rattle.zq_model.specs.Moves.{Queue}
use Rattle.zq_model.specs.Books.{Book}
use Rattle.zq_semantics.specs.Plan.{drops, is_there, pop}
use Rattle.zq_semantics.specs.Replies.{bytes_of, pairs_reply, parts_of_pair}
use Rattle.zq_semantics.specs.Run.{ForCopies, IsWhy, IsWhyOf, Memory, Number, cut_error, cut_pop}
use Rattle.zq_resp.specs.Reply.{bulk, joined, line}
use Rattle.zq_words.specs.Words.{Word}

-- ---- lists

pub at_drop : {X : Type 0} (xs : List X) (i : ℕ) (x : X) (rest : List X) → drop i xs ≡ x ∷ rest → slice_get xs i ≡ Some x
at_drop [] zero x rest is = absurd (cc)
at_drop [] (suc i) x rest is = absurd (cc)
at_drop (y ∷ xs) zero x rest is = cc
at_drop (y ∷ xs) (suc i) x rest is = at_drop xs i x rest is

pub rest_drop : {X : Type 0} (xs : List X) (i : ℕ) (x : X) (rest : List X) → drop i xs ≡ x ∷ rest → rest ≡ drop (i + 1) xs
rest_drop [] zero x rest is = absurd (cc)
rest_drop [] (suc i) x rest is = absurd (cc)
rest_drop (y ∷ xs) zero x rest is = cc
rest_drop (y ∷ xs) (suc i) x rest is = let next : suc i + 1 ≡ suc (i + 1) = omega arith in rest_drop xs i x rest is ∙ sym (ap (λ n. drop n (y ∷ xs)) next)

pub below_drop : {X : Type 0} (xs : List X) (i : ℕ) (x : X) (rest : List X) → drop i xs ≡ x ∷ rest → i + 1 ≤ length xs
below_drop [] zero x rest is = absurd (cc)
below_drop [] (suc i) x rest is = absurd (cc)
below_drop (y ∷ xs) zero x rest is = omega arith
below_drop (y ∷ xs) (suc i) x rest is = let later = below_drop xs i x rest is in omega (arith, later)

pub empty_drop : {X : Type 0} (xs : List X) (i : ℕ) → drop i xs ≡ [] → length xs ≤ i
empty_drop [] i is = omega arith
empty_drop (y ∷ xs) zero is = absurd (cc)
empty_drop (y ∷ xs) (suc i) is = let later = empty_drop xs i is in omega (arith, later)

-- the next of the first n
next_taken : {X Y : Type 0} (f : X → Y) (xs : List X) (i n : ℕ) → i < n → slice_get (map f (drop i xs)) 0 ≡ slice_get (map f (take n xs)) i
next_taken f xs i zero below = absurd (omega (arith, below))
next_taken f [] zero (suc n) below = refl
next_taken f [] (suc i) (suc n) below = refl
next_taken f (x ∷ xs) zero (suc n) below = refl
next_taken f (x ∷ xs) (suc i) (suc n) below = next_taken f xs i n (omega (arith, below))

-- why the first of some pairs was not dropped
pub why_first : (site : ℕ) (key : List ℕ) (q : Queue) (books : List Book) (cut : Stopped) → (cut ≡ Worn → IsWhy site (slice_get (drops key q) 0) books Number) → is_there q ≡ true →
    IsWhyOf ForCopies site (slice_get (drops key q) 0) books (want_of cut)
why_first site key q books Worn why there = why refl
why_first site key (x ∷ q) books NoMemory why there = tt
why_first site key [] books NoMemory why there = absurd (cc)

-- ---- pops

abbrev pub shown_parts : Queue → List Word
shown_parts pairs = map bulk (flat_map (parts_of_pair true) pairs)

shown_next : (xs : Queue) (x : Scored) → shown_parts (xs ++ x ∷ []) ≡ shown_parts xs ++ map bulk (parts_of_pair true x)
shown_next [] x = refl
shown_next (y ∷ xs) x = ap (λ ws. map bulk (parts_of_pair true y) ++ ws) (shown_next xs x)

pub shown_bytes : (q : Queue) → array_bytes (shown_parts q) ≡ bytes_of (pairs_reply true q)
shown_bytes q = ap (λ n. 42 ∷ line (decimal n) ++ joined (shown_parts q)) (length-map (flat_map (parts_of_pair true) q) bulk)

module _ (site stamp : ℕ) (key : List ℕ) where
  -- after the first so many pairs
  pub record PoppedAfter (s t : Lending) (done : ℕ) (parts : List Word) : Type 0 where
    pub lent : t ≡ lent_after_all site stamp (drops key (take done (queues_in s key))) s
    pub left : queues_in t key ≡ drop done (queues_in s key)
    pub within : done ≤ length (queues_in s key)
    pub shown : parts ≡ shown_parts (take done (queues_in s key))

  pub popped_first : (s : Lending) → PoppedAfter s s 0 []
  popped_first s = record { lent = refl; left = refl; within = omega arith; shown = refl }

  -- one pair more
  pub popped_next : (s t u : Lending) (done : ℕ) (parts later : List Word) → PoppedAfter s t done parts → PopsFirst site stamp key t u parts later → PoppedAfter s u (done + 1) later
  popped_next s t u done parts later here step =
      let q = queues_in s key in
      let x = step.drops.first in
      let is : drop done q ≡ x ∷ step.drops.rest = sym here.left ∙ step.drops.was in
      let longer : take (done + 1) q ≡ take done q ++ x ∷ [] = take_next q done x (at_drop q done x step.drops.rest is) in
      let moves : drops key (take (done + 1) q) ≡ drops key (take done q) ++ drop_of key x ∷ []
      = ap (drops key) longer ∙ map-append (drop_of key) (take done q) (x ∷ []) in
      record {
        lent =
            step.drops.lent ∙ ap (lent_after site stamp (drop_of key x)) here.lent
            ∙ sym (lent-append site stamp (drops key (take done q)) (drop_of key x ∷ []) s) ∙ ap (λ ms. lent_after_all site stamp ms s) (sym moves);
        left = step.drops.left ∙ rest_drop q done x step.drops.rest is;
        within = below_drop q done x step.drops.rest is;
        shown = step.parts ∙ ap (λ ws. ws ++ map bulk (parts_of_pair true x)) here.shown ∙ sym (shown_next (take done q) x) ∙ ap shown_parts (sym longer);
      }

  module _ (n : ℕ) (s t : Lending) (done : ℕ) (parts : List Word) (here : PoppedAfter s t done parts) (bytes : Word) where
    ran_taken : (short : Bool) → take done (queues_in s key) ≡ take n (queues_in s key) → bytes ≡ array_bytes parts →
        EndsOver site stamp ForCopies (pop key n (queues_in s)) (cut_pop (Some (key, n)) (queues_in s)) s t bytes short
    ran_taken short same is = whole (here.lent ∙ ap (λ pairs. lent_after_all site stamp (drops key pairs) s) same)
        (is ∙ ap array_bytes here.shown ∙ ap (λ pairs. array_bytes (shown_parts pairs)) same ∙ shown_bytes (take n (queues_in s key)))

    -- all that were asked for
    pub popped_whole : (short : Bool) → done ≡ n → bytes ≡ array_bytes parts → EndsOver site stamp ForCopies (pop key n (queues_in s)) (cut_pop (Some (key, n)) (queues_in s)) s t bytes short
    popped_whole short all is = ran_taken short (ap (λ k. take k (queues_in s key)) all) is

    -- and all that were there
    pub popped_out : (short : Bool) → done ≤ n → queues_in t key ≡ [] → bytes ≡ array_bytes parts →
        EndsOver site stamp ForCopies (pop key n (queues_in s)) (cut_pop (Some (key, n)) (queues_in s)) s t bytes short
    popped_out short low none is =
        let q = queues_in s key in
        let past = empty_drop q done (sym here.left ∙ none) in
        ran_taken short (take_all done q past ∙ sym (take_all n q (omega (arith, past, low)))) is

    why_next : (cut : Stopped) → done < n → (cut ≡ Worn → IsWhy site (slice_get (drops key (queues_in t key)) 0) t.books Number) → is_there (queues_in t key) ≡ true →
        IsWhyOf ForCopies site (slice_get (drops key (take n (queues_in s key))) done) t.books (want_of cut)
    why_next cut below why there =
        subst (λ o. IsWhyOf ForCopies site o t.books (want_of cut)) (ap (λ q. slice_get (drops key q) 0) here.left ∙ next_taken (drop_of key) (queues_in s key) done n below)
        (why_first site key (queues_in t key) t.books cut why there)

    said : (cut : Stopped) → (0 < done → bytes ≡ array_bytes parts) → (done ≡ 0 → bytes ≡ bytes_of (cut_error 0 (want_of cut))) →
        bytes ≡ bytes_of (cut_pop (Some (key, n)) (queues_in s) done (want_of cut))
    said cut some none =
        elim done as (λ k. done ≡ k → bytes ≡ bytes_of (cut_pop (Some (key, n)) (queues_in s) k (want_of cut))) [
          | zero ↦ λ is. none is
          | suc k ↦ λ is. some (omega (arith, is)) ∙ ap array_bytes here.shown ∙ shown_bytes (take done (queues_in s key)) ∙ ap (λ j. bytes_of (pairs_reply true (take j (queues_in s key)))) is
        ] refl

    -- those before the one that was refused
    pub popped_cut : (cut : Stopped) (short : Bool) → done < n → (cut ≡ Worn → IsWhy site (slice_get (drops key (queues_in t key)) 0) t.books Number) → is_there (queues_in t key) ≡ true → (0 < done → bytes ≡ array_bytes parts) →
        (done ≡ 0 → bytes ≡ bytes_of (cut_error 0 (want_of cut))) → (want_of cut ≡ Memory → short ≡ true) →
        EndsOver site stamp ForCopies (pop key n (queues_in s)) (cut_pop (Some (key, n)) (queues_in s)) s t bytes short
    popped_cut cut short below why there some none memory =
        let q = queues_in s key in
        let moves : take done (drops key (take n q)) ≡ drops key (take done q) = take-map (drop_of key) done (take n q) ∙ ap (drops key) (take-take done n q (omega (arith, below))) in
        part done (want_of cut) (let within = here.within in omega (arith, within, below, length-map (take n q) (drop_of key), length-take n q))
        (here.lent ∙ ap (λ ms. lent_after_all site stamp ms s) (sym moves)) (why_next cut below why there) (said cut some none) memory

  -- not even the first one
  pub popped_none : (s : Lending) (bytes : Word) (cut : Stopped) (short : Bool) → (cut ≡ Worn → IsWhy site (slice_get (drops key (queues_in s key)) 0) s.books Number) → is_there (queues_in s key) ≡ true →
      bytes ≡ bytes_of (cut_error 0 (want_of cut)) → (want_of cut ≡ Memory → short ≡ true) → EndsOver site stamp ForCopies (pop key 1 (queues_in s)) (cut_pop (Some (key, 1)) (queues_in s)) s s bytes short
  popped_none s bytes cut short why there is memory = popped_cut 1 s s 0 [] (popped_first s) bytes cut short (omega arith) why there (λ some. absurd (omega (arith, some))) (λ _. is) memory

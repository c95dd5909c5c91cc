-- Where the clearing of a key stands, and what the clearing of several comes to.

use Rattle.std.proofs.Common.{Bool, List, None, [], ap, arith, true, drop, length, map, option_map, refl, subst, suc, sym, zero, ℕ, ◌++◌, ◌+◌, ◌<◌, ◌∙◌, ◌∷◌, ◌≡◌, ◌≤◌}
use Rattle.std.proofs.lemmas.List.{length-append, length-map, take-append-le, take_all}
use Rattle.std.proofs.lemmas.Option.{slice_get-map}
use Rattle.std.specs.Prelude.{Some, if◌then◌else◌, slice_get, take}
use Rattle.zq_commands.proofs.InTurn.{StandsAfter, after_all-append, lent-append, moves_split, stands_next, take_next}
use Rattle.zq_commands.proofs.Popped.{at_drop, below_drop, empty_drop, rest_drop, why_first}
use Rattle.zq_commands.proofs.RanPlans.{drop_at}
use Rattle.zq_commands.specs.Clearing.{Clears, IsLeft}
use Rattle.zq_commands.specs.Stopped.{want_of}
use Rattle.zq_commands.specs.FirstPairs.{DropsFirst, drop_of}
use Rattle.zq_commands.specs.Lending.{Lending, lent_after, queues_in}
use Rattle.zq_commands.specs.Running.{EndsOver, lent_after_all, part}
use Rattle.zq_commands.specs.Stepping.{Steps}
use Rattle.zq_commands.specs.declared.cleared.Cleared.{Cleared}
use Rattle.zq_commands.specs.declared.stopped.Stopped.{Stopped}
use Rattle.zq_commands.specs.declared.stopped.Stopped.TheVariants.{NoMemory, Worn}
use Rattle.zq_commands.specs.declared.made.Made.{Made}
use Rattle.zq_model.specs.Books.{Book}
use Rattle.zq_model.specs.Moves.{Move, Queue, after, after_all}
use Rattle.zq_semantics.specs.Plan.{del_part, drops, in_turn, is_there, moves_in_turn}
use Rattle.zq_semantics.specs.Replies.{bytes_of}
use Rattle.zq_semantics.specs.Run.{ForCopies, IsWhy, IsWhyOf, Memory, Number, Want, cut_error}
use Rattle.zq_words.specs.Words.{Word}

-- ---- lists

take_past : {X : Type 0} (front ys : List X) (k : ℕ) → take (length front + k) (front ++ ys) ≡ front ++ take k ys
take_past [] ys k = let same : 0 + k ≡ k = omega arith in ap (λ n. take n ys) same
take_past (x ∷ front) ys k =
    let next : length (x ∷ front) + k ≡ suc (length front + k) = omega arith in
    ap (λ n. take n (x ∷ (front ++ ys))) next ∙ ap (λ zs. x ∷ zs) (take_past front ys k)

get_past : {X : Type 0} (front ys : List X) (k : ℕ) → slice_get (front ++ ys) (length front + k) ≡ slice_get ys k
get_past [] ys k = let same : 0 + k ≡ k = omega arith in ap (slice_get ys) same
get_past (x ∷ front) ys k =
    let next : length (x ∷ front) + k ≡ suc (length front + k) = omega arith in
    ap (slice_get (x ∷ (front ++ ys))) next ∙ get_past front ys k

at_rest : {X Y : Type 0} (f : X → Y) (xs : List X) (i : ℕ) → slice_get (map f (drop i xs)) 0 ≡ slice_get (map f xs) i
at_rest f [] zero = refl
at_rest f [] (suc i) = refl
at_rest f (x ∷ xs) zero = refl
at_rest f (x ∷ xs) (suc i) = at_rest f xs i

-- why a drop was not made, with more behind it
why_longer : (site : ℕ) (books : List Book) (moves later : List Move) (k : ℕ) (want : Want) → IsWhyOf ForCopies site (slice_get moves k) books want →
    IsWhyOf ForCopies site (slice_get (moves ++ later) k) books want
why_longer site books [] later k Number why = absurd why
why_longer site books [] later k Memory why = absurd why
why_longer site books (move ∷ moves) later zero want why = why
why_longer site books (move ∷ moves) later (suc k) want why = why_longer site books moves later k want why

apart : Worn ≡ NoMemory → ⊥
apart e = cc

-- ---- one key

module _ (site stamp : ℕ) (key : List ℕ) where
  -- after the first so many of its pairs
  pub record DroppedAfter (s t : Lending) (n : ℕ) : Type 0 where
    pub lent : t ≡ lent_after_all site stamp (take n (drops key (queues_in s key))) s
    pub queues : queues_in t ≡ after_all (take n (drops key (queues_in s key))) (queues_in s)
    pub left : queues_in t key ≡ drop n (queues_in s key)
    pub within : n ≤ length (queues_in s key)

  pub dropped_first : (s : Lending) (n : ℕ) → n ≡ 0 → DroppedAfter s s n
  dropped_first s n none = subst (DroppedAfter s s) (sym none) (record { lent = refl; queues = refl; left = refl; within = omega arith })

  -- one pair more
  pub dropped_next : (s t u : Lending) (n more : ℕ) → more ≡ n + 1 → DroppedAfter s t n → DropsFirst site stamp key t u → DroppedAfter s u more
  dropped_next s t u n more one here step =
      let q = queues_in s key in
      let x = step.first in
      let is : drop n q ≡ x ∷ step.rest = sym here.left ∙ step.was in
      let moves : take (n + 1) (drops key q) ≡ take n (drops key q) ++ drop_of key x ∷ []
      = take_next (drops key q) n (drop_of key x) (slice_get-map (drop_of key) q n ∙ ap (option_map (drop_of key)) (at_drop q n x step.rest is)) in
      subst (DroppedAfter s u) (sym one) (record {
        lent =
            step.lent ∙ ap (lent_after site stamp (drop_of key x)) here.lent
            ∙ sym (lent-append site stamp (take n (drops key q)) (drop_of key x ∷ []) s) ∙ ap (λ ms. lent_after_all site stamp ms s) (sym moves);
        queues =
            step.queues ∙ ap (after (drop_of key x)) here.queues
            ∙ sym (after_all-append (take n (drops key q)) (drop_of key x ∷ []) (queues_in s)) ∙ ap (λ ms. after_all ms (queues_in s)) (sym moves);
        left = step.left ∙ rest_drop q n x step.rest is;
        within = below_drop q n x step.rest is;
      })

  module _ (s t : Lending) (before n : ℕ) (here : DroppedAfter s t n) (cleared : Cleared) (done : cleared.done ≡ before + n) where
    cleared_with : IsLeft site key s t n cleared.cut → Clears site stamp key before s t cleared
    cleared_with left = record { made = n; done = done; within = here.within; lent = here.lent; queues = here.queues; left = left }

    -- until there is none
    pub cleared_out : cleared.cut ≡ None → queues_in t key ≡ [] → Clears site stamp key before s t cleared
    cleared_out none out =
        let past = empty_drop (queues_in s key) n (sym here.left ∙ out) in
        let all : n ≡ length (queues_in s key) = let low = here.within in omega (arith, past, low) in
        cleared_with (subst (IsLeft site key s t n) (sym none) all)

    -- until a move was refused
    pub cleared_cut : (cut : Stopped) → cleared.cut ≡ Some cut → (cut ≡ Worn → IsWhy site (slice_get (drops key (queues_in t key)) 0) t.books Number) → is_there (queues_in t key) ≡ true →
        Clears site stamp key before s t cleared
    cleared_cut cut some why there =
        cleared_with (subst (IsLeft site key s t n) (sym some)
        (subst (λ o. IsWhyOf ForCopies site o t.books (want_of cut)) (ap (λ q. slice_get (drops key q) 0) here.left ∙ at_rest (drop_of key) (queues_in s key) n)
        (why_first site key (queues_in t key) t.books cut why there)))

    -- or where no number counts one more
    pub cleared_last : (cleared.cut ≡ None → queues_in t key ≡ []) → ((cut : Stopped) → cleared.cut ≡ Some cut → cut ≡ NoMemory) →
        ((cut : Stopped) → cleared.cut ≡ Some cut → is_there (queues_in t key) ≡ true) → Clears site stamp key before s t cleared
    cleared_last none some there = elim cleared.cut as (λ o. cleared.cut ≡ o → Clears site stamp key before s t cleared) [
      | None ↦ λ is. cleared_out is (none is)
      | Some cut ↦ λ is. cleared_cut cut is (λ worn. absurd (apart (sym worn ∙ some cut is))) (there cut is)
    ] refl

-- ---- several

-- a key counts where a move was made
counted_as : (q : Queue) (made before done more : ℕ) → made ≡ length q → done ≡ before + made → (before < done → more ≡ 1) → (done ≤ before → more ≡ 0) → more ≡ (if is_there q then 1 else 0)
counted_as [] made before done more all sum some out = out (omega (arith, sum, all))
counted_as (x ∷ q) made before done more all sum some out = some (omega (arith, sum, all))

module _ (site stamp : ℕ) (keys : List Word) (i : ℕ) (key : Word) (s t u : Lending) (counted done : ℕ)
    (here : StandsAfter del_part site stamp keys i s t counted done) (at : slice_get keys i ≡ Some key) (cleared : Cleared) (clears : Clears site stamp key done t u cleared) where
  -- after a key that was cleared
  pub keys_next : (more : ℕ) → cleared.cut ≡ None → (done < cleared.done → more ≡ 1) → (cleared.done ≤ done → more ≡ 0) →
      StandsAfter del_part site stamp keys (i + 1) s u (counted + more) cleared.done
  keys_next more none some out =
      let q = queues_in t key in
      let all : clears.made ≡ length q = subst (IsLeft site key t u clears.made) none clears.left in
      let moves : take clears.made (drops key q) ≡ drops key q = take_all clears.made (drops key q) (omega (arith, all, length-map q (drop_of key))) in
      let counts : Made = record { moves = clears.made; counted = more } in
      let step : Steps site stamp (del_part (queues_in t) key) t u counts = record {
        lent = clears.lent ∙ ap (λ ms. lent_after_all site stamp ms t) moves;
        queues = clears.queues ∙ ap (λ ms. after_all ms (queues_in t)) moves;
        counted = counted_as q clears.made done cleared.done more all clears.done some out;
        moves = omega (arith, all, length-map q (drop_of key));
      } in
      subst (StandsAfter del_part site stamp keys (i + 1) s u (counted + more)) (sym clears.done) (stands_next del_part site stamp keys i key s t u counted done counts here at step)

  whole_moves : moves_in_turn del_part keys (queues_in s) ≡
      moves_in_turn del_part (take i keys) (queues_in s) ++ (drops key (queues_in t key) ++ moves_in_turn del_part (drop (i + 1) keys) (after_all (drops key (queues_in t key)) (queues_in t)))
  whole_moves =
      moves_split del_part site stamp keys i s t counted done here
      ∙ ap (λ ys. moves_in_turn del_part (take i keys) (queues_in s) ++ moves_in_turn del_part ys (queues_in t)) (drop_at keys i key at)

  -- where a move of a key was refused
  pub keys_cut : (cut : Stopped) → cleared.cut ≡ Some cut → (bytes : Word) → (short : Bool) → bytes ≡ bytes_of (cut_error cleared.done (want_of cut)) → (want_of cut ≡ Memory → short ≡ true) →
      EndsOver site stamp ForCopies (in_turn del_part keys (queues_in s)) cut_error s u bytes short
  keys_cut cut some bytes short says told =
      let front = moves_in_turn del_part (take i keys) (queues_in s) in
      let moves = drops key (queues_in t key) in
      let later = moves_in_turn del_part (drop (i + 1) keys) (after_all moves (queues_in t)) in
      let k = clears.made in
      let wide : k ≤ length moves = let low = clears.within in omega (arith, low, length-map (queues_in t key) (drop_of key)) in
      let at_k : cleared.done ≡ length front + k = let sum = clears.done in let made = here.made in omega (arith, sum, made) in
      let taken : take cleared.done (moves_in_turn del_part keys (queues_in s)) ≡ front ++ take k moves
      = ap (take cleared.done) whole_moves ∙ ap (λ n. take n (front ++ (moves ++ later))) at_k ∙ take_past front (moves ++ later) k ∙ ap (λ ms. front ++ ms) (take-append-le k moves later wide) in
      let same : u ≡ lent_after_all site stamp (take cleared.done (moves_in_turn del_part keys (queues_in s))) s
      = clears.lent ∙ ap (lent_after_all site stamp (take k moves)) here.lent ∙ sym (lent-append site stamp front (take k moves) s) ∙ ap (λ ms. lent_after_all site stamp ms s) (sym taken) in
      let next : slice_get (moves_in_turn del_part keys (queues_in s)) cleared.done ≡ slice_get (moves ++ later) k
      = ap (λ ms. slice_get ms cleared.done) whole_moves ∙ ap (slice_get (front ++ (moves ++ later))) at_k ∙ get_past front (moves ++ later) k in
      part cleared.done (want_of cut) (omega (arith, at_k, wide, ap length whole_moves, length-append front (moves ++ later), length-append moves later)) same
      (subst (λ o. IsWhyOf ForCopies site o u.books (want_of cut)) (sym next) (why_longer site u.books moves later k (want_of cut) (subst (IsLeft site key t u k) some clears.left))) says told

-- Counting over the first words of a list.

use Rattle.std.proofs.Common.{Bool, List, Some, [], ap, arith, false, slice_get, take, true, ℕ, ◌+◌, ◌∷◌, ◌∙◌, ◌≡◌}
use Rattle.std.proofs.lemmas.List.Sums.{sum_by-append, sum_by-cons}
use Rattle.std.specs.Prelude.{count_by}
use Rattle.zq_commands.proofs.InTurn.{take_next}
use Rattle.zq_commands.proofs.Sections.{number_of}

module _ {X : Type 0} (p : X → Bool) (xs : List X) (i : ℕ) (x : X) (at : slice_get xs i ≡ Some x) where
  -- one word more
  count_next : count_by p (take (i + 1) xs) ≡ count_by p (take i xs) + number_of (p x)
  count_next =
      let split = ap (count_by p) (take_next xs i x at) ∙ sum_by-append (λ y. number_of (p y)) (take i xs) (x ∷ []) in
      let last = sum_by-cons (λ y. number_of (p y)) x [] in
      omega (arith, split, last)

  pub count_more : p x ≡ true → count_by p (take (i + 1) xs) ≡ count_by p (take i xs) + 1
  count_more passes = count_next ∙ ap (λ b. count_by p (take i xs) + number_of b) passes

  pub count_stays : p x ≡ false → count_by p (take (i + 1) xs) ≡ count_by p (take i xs)
  count_stays fails = let more = count_next ∙ ap (λ b. count_by p (take i xs) + number_of b) fails in omega (arith, more)

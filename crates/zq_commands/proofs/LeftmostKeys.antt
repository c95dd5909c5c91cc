-- The first of some keys that has members.

use Rattle.std.proofs.Common.{List, None, Some, ap, drop, false, length, true, ℕ, ◌+◌, ◌∙◌, ◌≡◌, ◌≤◌}
use Rattle.std.proofs.lemmas.Bool.{cond-false, cond-true}
use Rattle.std.proofs.lemmas.List.{drop_all}
use Rattle.std.specs.Prelude.{slice_get}
use Rattle.zq_commands.proofs.RanPlans.{drop_at}
use Rattle.zq_model.specs.Moves.{Queues}
use Rattle.zq_semantics.specs.Plan.{is_there}
use Rattle.zq_semantics.specs.Procedures.{leftmost}
use Rattle.zq_words.specs.Words.{Word}

module _ (queues : Queues) (keys : List Word) (i : ℕ) (key : Word) (at : slice_get keys i ≡ Some key) where
  -- the key at i is the first from there on where it has members
  pub leftmost_here : is_there (queues key) ≡ true → leftmost (drop i keys) queues ≡ Some key
  leftmost_here there = ap (λ ks. leftmost ks queues) (drop_at keys i key at) ∙ cond-true (is_there (queues key)) (Some key) (leftmost (drop (i + 1) keys) queues) there

  -- and else it is among those behind it
  pub leftmost_later : is_there (queues key) ≡ false → leftmost (drop i keys) queues ≡ leftmost (drop (i + 1) keys) queues
  leftmost_later none = ap (λ ks. leftmost ks queues) (drop_at keys i key at) ∙ cond-false (is_there (queues key)) (Some key) (leftmost (drop (i + 1) keys) queues) none

-- behind the last key there is none
pub leftmost_none : (queues : Queues) (keys : List Word) (i : ℕ) → length keys ≤ i → leftmost (drop i keys) queues ≡ None
leftmost_none queues keys i past = ap (λ ks. leftmost ks queues) (drop_all i keys past)

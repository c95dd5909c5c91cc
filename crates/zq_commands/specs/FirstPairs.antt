-- The first pair of a key over the books that are lent, and what dropping it makes.

use Rattle.std.specs.Borrow.{Bor}
use Rattle.std.specs.Prelude.{List, Option, map, slice_get, true, ℕ, ℤ, ◌++◌, ◌∷◌, ◌≡◌}
use Rattle.zq_commands.specs.Lending.{Lending, lent_after, queues_in}
use Rattle.zq_commands.specs.declared.first_of_key.Top.{Top}
use Rattle.zq_model.specs.Meaning.{Scored}
use Rattle.zq_model.specs.Operation.{Drop}
use Rattle.zq_model.specs.Moves.{Move, Queue, after}
use Rattle.zq_semantics.specs.Plan.{drops}
use Rattle.zq_semantics.specs.Replies.{parts_of_pair}
use Rattle.zq_semantics.specs.Run.{IsWhy, Number}
use Rattle.zq_resp.specs.Reply.{bulk}
use Rattle.zq_words.specs.Words.{Word}

-- a pair whose member is lent
abbrev pub lent_pair : ℤ × Bor (List ℕ) → Scored
lent_pair pair = (pair.0, pair.1.now)

-- a pair without the place at which it was found
abbrev pub top_pair : Top → Scored
top_pair top = lent_pair top.pair

abbrev pub top_in : Lending → List ℕ → Option Scored
top_in lent key = slice_get (queues_in lent key) 0

abbrev pub drop_of : List ℕ → Scored → Move
drop_of key pair = record { key = key; member = pair.1; act = Drop }

-- a number that dropping the first pair needs is at its last value
abbrev pub IsFirstWorn : ℕ → List ℕ → Lending → Type 0
IsFirstWorn site key lent =
    IsWhy site (slice_get (drops key (queues_in lent key)) 0) lent.books Number

-- the first pair is dropped, and the rest is left
pub record DropsFirst (site stamp : ℕ) (key : List ℕ) (old new : Lending) : Type 0 where
  pub first : Scored
  pub rest : Queue
  pub was : queues_in old key ≡ first ∷ rest
  pub lent : new ≡ lent_after site stamp (drop_of key first) old
  pub queues : queues_in new ≡ after (drop_of key first) (queues_in old)
  pub left : queues_in new key ≡ rest

-- and its member and its score are behind the parts of a reply
pub record PopsFirst (site stamp : ℕ) (key : List ℕ) (old new : Lending)
    (before later : List Word) : Type 0 where
  pub drops : DropsFirst site stamp key old new
  pub parts : later ≡ before ++ map bulk (parts_of_pair true drops.first)

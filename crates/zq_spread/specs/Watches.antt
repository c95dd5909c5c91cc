-- What is watched.

use Rattle.std.specs.Prelude.{List, ℕ}
use Rattle.zq_words.specs.Words.{Word}

-- keys, and the vector that each heap of a site had since when they are to stay as they are, by the
-- number of the heap
pub record Watch : Type 0 where
  pub vectors : List (List ℕ)
  pub keys : List Word

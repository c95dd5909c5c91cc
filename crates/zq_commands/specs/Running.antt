-- How a plan runs over the books that are lent.

use Rattle.std.specs.Prelude.{Bool, List, None, Option, Some, [], length, slice_get, take, true, ℕ, ◌∷◌, ◌≡◌, ◌≤◌, ◌⊎◌}
use Rattle.zq_commands.specs.Lending.{Lending, told_by}
use Rattle.zq_model.specs.Books.{Book}
use Rattle.zq_model.specs.Operation.{Operation}
use Rattle.zq_model.specs.Lent.{books_after, made}
use Rattle.zq_model.specs.Moves.{Move}
use Rattle.zq_semantics.specs.Plan.{Plan}
use Rattle.zq_semantics.specs.Replies.{Reply, bytes_of}
use Rattle.zq_semantics.specs.Run.{IsWhy, IsWhyOf, MayLack, Memory, Number, Takes, Want, cut_error}
use Rattle.zq_words.specs.Words.{Word}

-- what is told after moves over books, one after the other
abbrev pub told_after : ℕ → ℕ → List Move → List Book → Option (List Operation) →
    Option (List Operation)
told_after site stamp [] books told = told
told_after site stamp (move ∷ moves) books told =
    told_after site stamp moves (made site stamp move books) (told_by site move books told)

-- the books after moves, one after the other, and what is told then
abbrev pub lent_after_all : ℕ → ℕ → List Move → Lending → Lending
lent_after_all site stamp moves lent =
    record lent {
      books = books_after site stamp moves lent.books;
      told =
          told_after site stamp moves lent.books lent.told;
    }

-- the plan runs, whole or in part, and only what is short was cut for want of memory
pub data EndsOver (site stamp : ℕ) (takes : Takes) (plan : Plan) (cut : ℕ → Want →
    Reply) (old new : Lending) (reply : Word) (short : Bool) : Type 0 where
  whole : new ≡ lent_after_all site stamp plan.moves old → reply ≡ bytes_of plan.reply →
      EndsOver site stamp takes plan cut old new reply short
  part : (k : ℕ) → (want : Want) → k ≤ length plan.moves →
      new ≡ lent_after_all site stamp (take k plan.moves) old →
      IsWhyOf takes site (slice_get plan.moves k) new.books want → reply ≡ bytes_of (cut k want) →
      (want ≡ Memory → short ≡ true) →
      EndsOver site stamp takes plan cut old new reply short

-- a number that a move needs of the book of its heap is at its last value
abbrev pub IsWorn : ℕ → Move → Lending → Type 0
IsWorn site move lent = IsWhy site (Some move) lent.books Number

-- the bytes of a reply that is read off, or of the error for want of memory, where there may be
-- none
abbrev pub IsRead : Takes → Reply → Word → Type 0
IsRead takes reply bytes =
    (bytes ≡ bytes_of reply) ⊎ (MayLack takes 0 None [] × (bytes ≡ bytes_of (cut_error 0 Memory)))

-- the same of what a run is handed back as, where only what is short may have the error
abbrev pub IsReadAs : Takes → Reply → Word → Bool → Type 0
IsReadAs takes reply bytes short = (bytes ≡ bytes_of reply)
    ⊎ (MayLack takes 0 None [] × (bytes ≡ bytes_of (cut_error 0 Memory)) × (short ≡ true))

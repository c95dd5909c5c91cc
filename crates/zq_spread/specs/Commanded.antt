-- What a command answers and does over the books that a call holds.

use Rattle.std.specs.Prelude.{List, [], ℕ, ◌++◌, ◌∷◌, ◌≡◌}
use Rattle.zq_model.specs.Books.{Book, Record, Step, steps_of}
use Rattle.zq_model.specs.Rule.{Rule}
use Rattle.zq_semantics.specs.Replies.{bytes_of}
use Rattle.zq_semantics.specs.Run.{IsRun, Memory, Number, cut_error}
use Rattle.zq_words.specs.Command.{Command}
use Rattle.zq_words.specs.Words.{Word}

-- the steps are records, with which the old book's tail went on
pub record IsAppended (new old : Book) (steps : List Step) : Type 0 where
  pub records : List Record
  pub tail : new.tail ≡ old.tail ++ records
  pub recorded : steps ≡ steps_of records

-- in each of the books
abbrev pub AreAppended : List Book → List Book → List (List Step) → Type 0
AreAppended [] [] [] = Unit {0}
AreAppended (y ∷ new) (x ∷ old) (ss ∷ steps) = IsAppended y x ss × AreAppended new old steps
AreAppended new old steps = ⊥

-- the command ran over the books found, whole or cut, with this reply, and its steps are what it
-- recorded there
pub record IsAnswered (rule : Rule) (site stamp : ℕ) (command : Command) (reply : Word)
    (found : List Book) (steps : List (List Step)) : Type 0 where
  pub left : List Book
  pub ran : IsRun rule site stamp command found left reply
  pub appended : AreAppended left found steps

-- the reply where a lock or the stamp is at its last value
abbrev pub worn_reply : Word
worn_reply = bytes_of (cut_error 0 Number)

-- and where there is no memory to hold more heaps than one
abbrev pub short_reply : Word
short_reply = bytes_of (cut_error 0 Memory)

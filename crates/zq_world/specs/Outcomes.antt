-- What a command leaves of a site that no memory cuts.

use Rattle.std.specs.Prelude.{List, Some, [], false, length, max, min, slice_get, slice_set, ℕ, ◌∷◌, ◌≡◌}
use Rattle.zq_commands.specs.Commands.{IsRunOver}
use Rattle.zq_commands.specs.VecBooks.{rule_in}
use Rattle.zq_dots.specs.Placed.{Placed}
use Rattle.zq_model.specs.Books.{Book}
use Rattle.zq_model.specs.Lent.{queues_of}
use Rattle.zq_resp.specs.Reply.{reply_bytes}
use Rattle.zq_semantics.specs.Doing.{first_drawn, second_drawn}
use Rattle.zq_words.specs.Command.{Command, Zpopnear}
use Rattle.zq_world.specs.Near.{near_queue}
use Rattle.zq_world.specs.Told.{KeepsHeaps, lending_told}
use Rattle.zq_world.specs.declared.outcome.Outcome.{Outcome}

-- the command ran over these books, and what it made is behind the list
pub record Ran (site stamp : ℕ) (command : Command) (books : List Book) (made : List Placed)
    (left : Outcome) : Type 0 where
  pub run : IsRunOver site stamp command (lending_told books made)
      (lending_told left.books.items left.made.items) (reply_bytes left.reply) false
  pub heaps : KeepsHeaps books made left.books.items left.made.items

-- the command ran over the one book of all that has the first pair of the key
pub record RanNear (site stamp : ℕ) (command : Command) (key : List ℕ) (w1 w2 : ℕ)
    (books : List Book) (made : List Placed) (left : Outcome) : Type 0 where
  pub place : ℕ
  pub old : Book
  pub new : Book
  pub found : slice_get books place ≡ Some old
  pub left_is : left.books.items ≡ slice_set books place new
  pub run : IsRunOver site stamp command (lending_told (old ∷ []) made)
      (lending_told (new ∷ []) left.made.items) (reply_bytes left.reply) false
  pub heaps : KeepsHeaps (old ∷ []) made (new ∷ []) left.made.items
  pub first : (low high : Book) →
      slice_get books (min (first_drawn (length books) w1) (second_drawn (length books) w1 w2))
      ≡ Some low →
      slice_get books (max (first_drawn (length books) w1) (second_drawn (length books) w1 w2))
      ≡ Some high →
      slice_get (queues_of (rule_in books) (old ∷ []) key) 0
      ≡ slice_get (near_queue (rule_in books) low high books key) 0

-- ZPOPNEAR ran over the one book that it pops by two words, and any other command over all
abbrev pub RanBy : ℕ → ℕ → Command → ℕ → ℕ → List Book → List Placed → Outcome → Type 0
RanBy site stamp (Zpopnear key) w1 w2 books made left =
    RanNear site stamp (Zpopnear key) key w1 w2 books made left
RanBy site stamp command w1 w2 books made left = Ran site stamp command books made left

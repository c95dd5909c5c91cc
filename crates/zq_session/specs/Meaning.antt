-- What the books of a server of a site that one session alone uses mean.

use Rattle.std.specs.Prelude.{Bool, List, Some, length, slice_get, ℕ, ◌≡◌, ◌⊎◌}
use Rattle.zq_model.specs.Books.{Book}
use Rattle.zq_journal.specs.Books.{LAST_STAMP}
use Rattle.zq_model.specs.Bounded.{HasShortNames}
use Rattle.zq_model.specs.Image.{image_of}
use Rattle.zq_model.specs.Operation.{Operation}
use Rattle.zq_model.specs.Rule.{Greatest}
use Rattle.zq_model.specs.Sets.{IsClosed, IsHeaps, IsIn, IsWorld}
use Rattle.zq_notes.specs.Readings.{IsOrShort}
use Rattle.zq_semantics.specs.Replies.{bytes_of}
use Rattle.zq_semantics.specs.Run.{Number, cut_error}
use Rattle.zq_semantics.specs.Books.{greatest_stamp}
use Rattle.zq_words.specs.Words.{Word}

-- the book is that of this heap, of K, and has the image of this set there
pub record HasImageOf (K : ℕ) (S : List Operation) (heap : ℕ) (book : Book) : Type 0 where
  pub heap_is : book.heap ≡ heap
  pub heaps : book.heaps ≡ K
  pub ruled : book.rule ≡ Greatest
  pub state : book.state ≡ image_of S heap

-- there is such a book for each of K heaps, at the place of its number, and the set is a closed set
-- of one world with short names
pub record IsOfSet (K : ℕ) (S : List Operation) (books : List Book) : Type 0 where
  pub heaps : IsHeaps K
  pub world : IsWorld K S
  pub closed : IsClosed S
  pub short : (o : Operation) → IsIn o S → HasShortNames o
  pub number : length books ≡ K
  pub each : (heap : ℕ) (book : Book) → slice_get books heap ≡ Some book → HasImageOf K S heap book

-- the answer, or, where that is a list with something in it, that there was no memory for it; or
-- that no command is begun, since a book's stamp is the last
abbrev pub IsAnswer : List Book → Bool → Word → Word → Type 0
IsAnswer books is_list answer bytes =
    IsOrShort is_list answer bytes
    ⊎ ((greatest_stamp books ≡ LAST_STAMP) × (bytes ≡ bytes_of (cut_error 0 Number)))

-- the set has all that another has
abbrev pub HasAll : List Operation → List Operation → Type 0
HasAll T S = (o : Operation) → IsIn o S → IsIn o T

-- One thread's history: each note is that of a call over the books that the notes before it left.

use Rattle.std.specs.List.{list_all}
use Rattle.std.specs.Prelude.{List, [], if◌then◌else◌, map, true, ℕ, ◌++◌, ◌==◌, ◌∷◌, ◌≡◌}
use Rattle.zq_model.specs.Books.{Book, Step, are_steps_over, stamp_of}
use Rattle.zq_model.specs.Reach.{worked}
use Rattle.zq_model.specs.Rule.{Rule}
use Rattle.zq_notes.specs.Does.{Does}
use Rattle.zq_notes.specs.Notes.{Books, Note}

-- the book of the heap h after a call of this stamp, in these heaps, with these steps in each
abbrev pub left_in : ℕ → List ℕ → List (List Step) → ℕ → Book → Book
left_in stamp [] steps h b = b
left_in stamp (k ∷ heaps) [] h b = b
left_in stamp (k ∷ heaps) (ss ∷ steps) h b =
    if k == h then worked stamp ss b else left_in stamp heaps steps h b

-- the books after a call
abbrev pub left_by : Note → Books → Books
left_by n books = λ h. left_in n.stamp n.heaps n.steps h (books h)

-- the books after the calls, one after the other
abbrev pub left_by_all : List Note → Books → Books
left_by_all [] books = books
left_by_all (n ∷ notes) books = left_by_all notes (left_by n books)

-- the steps can come over the book, and are of this stamp
pub record AreOwn (stamp : ℕ) (b : Book) (steps : List Step) : Type 0 where
  pub legal : are_steps_over b.heaps b.heap b.state steps ≡ true
  pub own : list_all (λ s. stamp_of s == stamp) steps ≡ true

-- in each of these heaps
abbrev pub AreOwnIn : ℕ → Books → List ℕ → List (List Step) → Type 0
AreOwnIn stamp books [] [] = Unit {0}
AreOwnIn stamp books (h ∷ heaps) (ss ∷ steps) = AreOwn stamp (books h) ss
    × AreOwnIn stamp books heaps steps
AreOwnIn stamp books heaps steps = ⊥

-- a site of this rule, of K heaps and this number
module _ (rule : Rule) (K site : ℕ) where
  -- the note is that of a call over these books: it has the answer and the steps of what was asked
  pub record IsNoteOver (books : Books) (n : Note) : Type 0 where
    pub steps : AreOwnIn n.stamp books n.heaps n.steps
    pub does : Does rule K site n.stamp n.asked n.heaps n.answer (map books n.heaps) n.steps

  -- the calls of one thread, one after the other, from these books on
  abbrev pub IsOneThread : Books → List Note → Type 0
  IsOneThread books [] = Unit {0}
  IsOneThread books (n ∷ notes) = IsNoteOver books n × IsOneThread (left_by n books) notes

  -- each note is, in each of its heaps, over what the notes before it left in that heap
  abbrev pub AreOverLeft : Books → List Note → Type 0
  AreOverLeft opening notes = (before : List Note) (n : Note) (after : List Note) →
      notes ≡ before ++ n ∷ after → IsNoteOver (left_by_all before opening) n

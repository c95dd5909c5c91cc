-- A world that was played, as callers see it.

use Rattle.std.proofs.Common.{inl, inr}
use Rattle.std.specs.Coded.{Coded, code_by, coded_list, coded_option, coded×, coded⊎, coded_ℕ}
use Rattle.std.specs.Prelude.{List, None, Option, Some, length, map, refl, slice_get, suc, zero, ℕ, ◌≡◌, ◌≤◌, ◌⊎◌}
use Rattle.zq_dots.specs.Placed.{Placed}
use Rattle.zq_model.specs.Books.{Book}
use Rattle.zq_journal.specs.Codes.{book_code}
use Rattle.zq_model.specs.Codes.{bytes_code, operation_code}
use Rattle.zq_model.specs.Operation.{Operation}
use Rattle.zq_model.specs.Rule.{Rule}
use Rattle.zq_model.specs.Sets.{Early, Known, New, Taken}
use Rattle.zq_semantics.specs.Books.{AreBooksOf}
use Rattle.zq_semantics.specs.Events.{Answer, Event, Handed, Merged, Replied}
use Rattle.zq_semantics.specs.Runs.{IsPlayable, run}
use Rattle.zq_words.specs.Words.{Word}
use Rattle.zq_world.specs.Frames.{placed}

-- the books of each site, by heap, the operations that were made, the oldest first, and what each
-- event was answered
pub record Left : Type 0 where
  pub books : List (List Book)
  pub made : List Placed
  pub answers : List Answer

-- so many sites of so many heaps can be a world
pub record IsSized (sites heaps : ℕ) : Type 0 where
  pub some : 1 ≤ sites
  pub few : sites ≤ 64
  pub two : 2 ≤ heaps
  pub most : heaps ≤ 16

-- the events can be played, and left this
pub record IsPlayed (rule : Rule) (K sites : ℕ) (events : List Event) (left : Left) : Type 0 where
  pub playable : IsPlayable rule K sites events
  pub number : length left.books ≡ sites
  pub books : (site : ℕ) (its : List Book) → slice_get left.books site ≡ Some its →
      AreBooksOf rule K (run rule K events).now site its
  pub made : left.made ≡ map (placed K) (run rule K events).now.made
  pub answers : left.answers ≡ (run rule K events).answers

-- the book of a heap, where its site is there and has it
abbrev heap_in : Option (List Book) → ℕ → Option Book
heap_in None heap = None
heap_in (Some books) heap = slice_get books heap

abbrev pub book_in : List (List Book) → ℕ → ℕ → Option Book
book_in sites site heap = heap_in (slice_get sites site) heap

-- the reply to an event, where it was a request
abbrev pub reply_to : Option Answer → Option Word
reply_to (Some (Replied reply)) = Some reply
reply_to answer = None

-- what became of the operation of an event, where it handed one over
abbrev pub taken_by : Option Answer → Option Taken
taken_by (Some (Handed taken)) = taken
taken_by answer = None

-- ---- codes

abbrev taken_number : Taken → ℕ
taken_number New = 0
taken_number Known = 1
taken_number Early = 2

abbrev taken_from : ℕ → Taken
taken_from zero = New
taken_from (suc zero) = Known
taken_from (suc (suc n)) = Early

pub taken-from_number : (taken : Taken) → taken_from (taken_number taken) ≡ taken
taken-from_number New = refl
taken-from_number Known = refl
taken-from_number Early = refl

abbrev taken_code : Coded Taken
taken_code = code_by ℕ coded_ℕ taken_number taken_from taken-from_number

abbrev sides_of : Answer → Word ⊎ Option (Option Taken)
sides_of (Replied reply) = inl reply
sides_of (Handed taken) = inr (Some taken)
sides_of Merged = inr None

abbrev answer_from : Word ⊎ Option (Option Taken) → Answer
answer_from (inl reply) = Replied reply
answer_from (inr (Some taken)) = Handed taken
answer_from (inr None) = Merged

pub answer-from_sides : (answer : Answer) → answer_from (sides_of answer) ≡ answer
answer-from_sides (Replied reply) = refl
answer-from_sides (Handed taken) = refl
answer-from_sides Merged = refl

abbrev answer_code : Coded Answer
answer_code = code_by (Word ⊎ Option (Option Taken))
    (coded⊎ bytes_code (coded_option (coded_option taken_code))) sides_of answer_from
    answer-from_sides

abbrev placed_code : Coded Placed
placed_code = code_by (ℕ × Operation) (coded× coded_ℕ operation_code) (λ p. (p.heaps, p.operation))
    (λ p. record { heaps = p.0; operation = p.1 }) (λ _. refl)

abbrev pub left_code : Coded Left
left_code =
    code_by (List (List Book) × (List Placed × List Answer))
    (coded× (coded_list (coded_list book_code))
    (coded× (coded_list placed_code) (coded_list answer_code)))
    (λ l. (l.books, (l.made, l.answers)))
    (λ p. record { books = p.0; made = p.1.0; answers = p.1.1 }) (λ _. refl)

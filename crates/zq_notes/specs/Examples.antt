-- Notes of a site of two heaps: what it takes, shows, merges, puts and reads.

use Rattle.std.specs.Prelude.{List, Ok, [], codes, pos, ℕ, ◌∷◌}
use Rattle.zq_dots.specs.Placed.{Placed}
use Rattle.zq_model.specs.Books.{Made, Merged, Step, Took}
use Rattle.zq_journal.specs.Books.{step_of}
use Rattle.zq_model.specs.Examples.{HEAPS, key_q, member_x, near, on_x, vector_with}
use Rattle.zq_model.specs.Image.{empty_image}
use Rattle.zq_model.specs.Operation.{Operation, Put}
use Rattle.zq_model.specs.Rule.{Rule}
use Rattle.zq_notes.specs.Notes.{Answer, Asked, Handed, Joined, Note, Replied, Shown, ToMerge, ToRun, ToShow, ToTake}
use Rattle.zq_semantics.specs.Examples.{no_flags}
use Rattle.zq_shard.specs.declared.taken.Taken.TheVariants.{Known, New}
use Rattle.zq_words.specs.Command.{Zadd, Zscore}
use Rattle.zq_words.specs.Words.{Word}

-- a call in the heap 1
abbrev pub in_one : ℕ → Asked → Answer → List Step → Note
in_one stamp asked answer steps =
    record { pass = 0; stamp = stamp; heaps = 1 ∷ []; asked = asked; answer = answer; steps = steps ∷ [] }

-- ---- an operation of another site

-- the site 0 has put x at 3, which lies in the heap 1
abbrev pub put_x : Operation
put_x = on_x near 0 0 0 (Put (pos 3))

-- made among so many heaps
abbrev pub placed_x : ℕ → Placed
placed_x heaps = record { heaps = heaps; operation = put_x }

abbrev pub took_among : ℕ → ℕ → Note
took_among heaps stamp = in_one stamp (ToTake (placed_x heaps)) (Handed (Ok New))
    (step_of stamp (Took put_x) ∷ [])

abbrev pub took : ℕ → Note
took stamp = took_among HEAPS stamp

abbrev pub knew : ℕ → Note
knew stamp = in_one stamp (ToTake (placed_x HEAPS)) (Handed (Ok Known)) []

abbrev pub showed : ℕ → Note
showed stamp = in_one stamp (ToShow 1) (Shown (vector_with near 1 0)) []

-- ---- a heap of another site

-- the merge of one that has nothing, and whose scores go by this rule
abbrev pub merged : Rule → ℕ → Note
merged rule stamp =
    in_one stamp (ToMerge (record { heap = 1; heaps = HEAPS; rule = rule; image = empty_image }))
    (Joined (Ok tt)) (Merged stamp empty_image ∷ [])

-- ---- commands of the site 1

-- ZADD of x at 3, answered 1, with these steps
abbrev pub added : ℕ → List Step → Note
added stamp steps = in_one stamp (ToRun (Zadd key_q no_flags ((pos 3, member_x) ∷ [])) 0 0)
    (Replied (codes ":1\r\n")) steps

-- its step
abbrev pub put : ℕ → Step
put stamp = step_of stamp (Made (on_x near 1 0 0 (Put (pos 3))))

-- ZSCORE of x, with this answer
abbrev pub scored : ℕ → Word → Note
scored stamp bytes = in_one stamp (ToRun (Zscore key_q member_x) 0 0) (Replied bytes) []

abbrev pub three : Word
three = codes "$1\r\n3\r\n"

abbrev pub four : Word
four = codes "$1\r\n4\r\n"

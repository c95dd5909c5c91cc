-- Sites that crash and begin again: their calls and their starts, one after the other.

use Rattle.std.specs.Prelude.{List, [], if◌then◌else◌, ℕ, ◌==◌, ◌∷◌, ◌≡◌}
use Rattle.zq_model.specs.Limits.{TailLimits}
use Rattle.zq_model.specs.Operation.{Operation}
use Rattle.zq_model.specs.Rule.{Rule}
use Rattle.zq_notes.specs.Gathered.{gathered_by}
use Rattle.zq_notes.specs.Notes.{Books, Note}
use Rattle.zq_notes.specs.Sites.{Event, empty_books, made_in_all}
use Rattle.zq_notes.specs.Thread.{left_by}
use Rattle.zq_semantics.specs.State.{with_at}

-- what stands at a moment: the books of each site, the operations that it has, and those that are
-- left anywhere, at a site or on the way to one
pub record State : Type 0 where
  pub books : ℕ → Books
  pub has : ℕ → List Operation
  pub left : List Operation

-- a site crashed, with all its heaps, and begins again with these books, which are of these
-- operations; and what is left anywhere then
pub record Restart : Type 0 where
  pub site : ℕ
  pub books : Books
  pub again : List Operation
  pub left : List Operation

-- a call of a site, or a crash of one with its start
pub data Happening : Type 0 where
  Called : (e : Event) → Happening
  Restarted : (r : Restart) → Happening

-- sites that are new, each with its limits of tails
abbrev pub new_sites : (ℕ → TailLimits) → Rule → ℕ → State
new_sites limits rule K = record {
  books = λ s. empty_books (limits s) rule K;
  has = λ s. [];
  left = [];
}

-- what is left anywhere after a call: what it made too
abbrev pub left_after : Event → State → List Operation
left_after e now = made_in_all e.call.note.steps now.left

-- what the site of a call has after it: what it made and took too, and what the images that it
-- merged or took over cover of what is left
abbrev pub has_after : Event → State → List Operation
has_after e now =
    gathered_by (left_after e now) e.call.note.heaps e.call.note.steps (now.has e.site)

abbrev pub after_call : Event → State → State
after_call e now = record {
  books = with_at now.books e.site (left_by e.call.note (now.books e.site));
  has = with_at now.has e.site (has_after e now);
  left = left_after e now;
}

-- what a site lost that nobody else has is nowhere any more
abbrev pub after_restart : Restart → State → State
after_restart r now = record {
  books = with_at now.books r.site r.books;
  has = with_at now.has r.site r.again;
  left = r.left;
}

abbrev pub after : Happening → State → State
after (Called e) now = after_call e now
after (Restarted r) now = after_restart r now

-- what stands after all of these, from a moment on
abbrev pub reached : State → List Happening → State
reached now [] = now
reached now (x ∷ happenings) = reached (after x now) happenings

-- ---- one site

-- the notes of a site's calls
abbrev pub notes_in : ℕ → List Happening → List Note
notes_in s [] = []
notes_in s (Called e ∷ happenings) =
    if e.site == s then e.call.note ∷ notes_in s happenings else notes_in s happenings
notes_in s (Restarted r ∷ happenings) = notes_in s happenings

-- the site does not crash meanwhile
abbrev pub RunsOn : ℕ → List Happening → Type 0
RunsOn s [] = Unit {0}
RunsOn s (Called e ∷ happenings) = RunsOn s happenings
RunsOn s (Restarted r ∷ happenings) = (r.site ≡ s → ⊥) × RunsOn s happenings

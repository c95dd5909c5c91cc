-- Several sites: their calls in one order, in which what a site takes was made before, and what it
-- merges or takes over was had before.

use Rattle.std.specs.Prelude.{List, [], if◌then◌else◌, ℕ, ◌++◌, ◌==◌, ◌∷◌, ◌≡◌}
use Rattle.zq_dots.specs.Rule.{rule_of}
use Rattle.zq_model.specs.Books.{Change, HandedOn, Made, Merged, Recorded, Step, Took, TookOver}
use Rattle.zq_model.specs.Image.{join}
use Rattle.zq_model.specs.Limits.{TailLimits}
use Rattle.zq_model.specs.Operation.{Operation}
use Rattle.zq_model.specs.Rule.{Rule}
use Rattle.zq_model.specs.Sets.{IsIn}
use Rattle.zq_notes.specs.Calls.{Call, IsCallOver, notes_of}
use Rattle.zq_notes.specs.Gathered.{gathered}
use Rattle.zq_notes.specs.Notes.{Books, Note}
use Rattle.zq_notes.specs.Thread.{left_by_all}
use Rattle.zq_spread.specs.Calls.{heaps_of}
use Rattle.zq_spread.specs.Makers.{empty_book}
use Rattle.zq_spread.specs.declared.site.Site.{Site}

-- a call of the site of this number
pub record Event : Type 0 where
  pub site : ℕ
  pub call : Call

-- the calls of one site
abbrev pub calls_of : ℕ → List Event → List Call
calls_of s [] = []
calls_of s (e ∷ events) = if e.site == s then e.call ∷ calls_of s events else calls_of s events

abbrev pub notes_at : ℕ → List Event → List Note
notes_at s events = notes_of (calls_of s events)

-- the books of a new site, with these limits
abbrev pub empty_books : TailLimits → Rule → ℕ → Books
empty_books limits rule K = λ h. empty_book limits rule K h

-- the books of a site that was new, after these events; each site has limits of its own
abbrev pub books_at : (ℕ → TailLimits) → Rule → ℕ → ℕ → List Event → Books
books_at limits rule K s events = left_by_all (notes_at s events) (empty_books (limits s) rule K)

-- ---- what the sites made

abbrev pub made_by : Change → List Operation
made_by (Made o) = o ∷ []
made_by (Took o) = []

-- what is made by steps, and what was made before
abbrev pub made_in : List Step → List Operation → List Operation
made_in [] W = W
made_in (Recorded r ∷ steps) W = made_in steps (made_by r.change ++ W)
made_in (Merged stamp other ∷ steps) W = made_in steps W
made_in (HandedOn stamp handed ∷ steps) W = made_in steps W
made_in (TookOver stamp other ∷ steps) W = made_in steps W

abbrev pub made_in_all : List (List Step) → List Operation → List Operation
made_in_all [] W = W
made_in_all (ss ∷ steps) W = made_in_all steps (made_in ss W)

abbrev pub made_from : List Event → List Operation → List Operation
made_from [] W = W
made_from (e ∷ events) W = made_from events (made_in_all e.call.note.steps W)

-- each operation that the sites made, the newest first
abbrev pub made_of : List Event → List Operation
made_of events = made_from events []

-- what a site has after these events: what it made and took, and what the images that it merged or
-- took over cover
abbrev pub has_at : List Operation → ℕ → List Event → List Operation
has_at W s events = gathered W (notes_at s events) []

-- ---- what reaches a site

-- an operation that is taken was made before
abbrev pub IsSent : List Event → Change → Type 0
IsSent before (Made o) = Unit {0}
IsSent before (Took o) = IsIn o (made_of before)

-- an image that a site merges in the heap h is what some site had there, now or before; and one that
-- the site s takes over there is what it has and some site had, joined
abbrev pub IsBrought : (ℕ → TailLimits) → Rule → ℕ → List Event → ℕ → ℕ → Step → Type 0
IsBrought limits rule K before s h (Recorded r) = IsSent before r.change
IsBrought limits rule K before s h (Merged stamp other) = (t : ℕ) × (past : List Event)
    × (later : List Event) × (before ≡ past ++ later)
    × (other ≡ (books_at limits rule K t past h).state)
IsBrought limits rule K before s h (HandedOn stamp handed) = Unit {0}
IsBrought limits rule K before s h (TookOver stamp other) = (t : ℕ) × (past : List Event)
    × (later : List Event) × (before ≡ past ++ later)
    × (other ≡ join (books_at limits rule K s before h).state
    (books_at limits rule K t past h).state)

abbrev pub AreBrought : (ℕ → TailLimits) → Rule → ℕ → List Event → ℕ → ℕ → List Step → Type 0
AreBrought limits rule K before s h [] = Unit {0}
AreBrought limits rule K before s h (step ∷ steps) = IsBrought limits rule K before s h step
    × AreBrought limits rule K before s h steps

abbrev pub AreBroughtIn : (ℕ → TailLimits) → Rule → ℕ → List Event → ℕ → List ℕ →
    List (List Step) → Type 0
AreBroughtIn limits rule K before s [] steps = Unit {0}
AreBroughtIn limits rule K before s (h ∷ heaps) [] = Unit {0}
AreBroughtIn limits rule K before s (h ∷ heaps) (ss ∷ steps) =
    AreBrought limits rule K before s h ss × AreBroughtIn limits rule K before s heaps steps

-- the event is a call of the site of its number, over what that site's calls before it left, and
-- what it takes, merges and takes over reached it
pub record IsEventAfter (limits : ℕ → TailLimits) (rule : Rule) (K : ℕ) (sites : ℕ → Site)
    (before : List Event) (e : Event) : Type 0 where
  pub number : (sites e.site).number ≡ e.site
  pub heaps : heaps_of (sites e.site) ≡ K
  pub ruled : rule_of (sites e.site).rule ≡ rule
  pub call : IsCallOver (sites e.site) (books_at limits rule K e.site before) e.call
  pub brought : AreBroughtIn limits rule K before e.site e.call.note.heaps e.call.note.steps

-- such events, of sites that were new in the beginning, each with its limits
abbrev pub AreEventsOf : (ℕ → TailLimits) → Rule → ℕ → (ℕ → Site) → List Event → Type 0
AreEventsOf limits rule K sites events = (before : List Event) (e : Event) (after : List Event) →
    events ≡ before ++ e ∷ after → IsEventAfter limits rule K sites before e

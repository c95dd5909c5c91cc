-- The notes of a site's calls.

use Rattle.std.specs.Prelude.{List, [], map, ℕ, ◌++◌, ◌∷◌, ◌≡◌, ◌≤◌, ◌⊎◌}
use Rattle.zq_dots.specs.Rule.{rule_of}
use Rattle.zq_model.specs.Books.{Book}
use Rattle.zq_notes.specs.Does.{Does}
use Rattle.zq_notes.specs.Notes.{Answer, Asked, Books, Note}
use Rattle.zq_notes.specs.Thread.{left_by_all}
use Rattle.zq_semantics.specs.Doing.{drawn}
use Rattle.zq_spread.specs.Calls.{IsCall, heaps_of}
use Rattle.zq_spread.specs.Dispatch.{DoesCommand, HasFoundNone, IsTurnedAway, IsWornOut, all_heaps}
use Rattle.zq_spread.specs.declared.locked_heap.LockedHeap.{LockedHeap}
use Rattle.zq_spread.specs.declared.pass.Pass.{Pass}
use Rattle.zq_spread.specs.declared.site.Site.{Site}
use Rattle.zq_words.specs.Command.{Command}
use Rattle.zq_words.specs.Heaps as named
use Rattle.zq_words.specs.Words.{Word}
use Rattle.zq_words.specs.declared.heaps.Heaps.{Heaps}
use Rattle.zq_words.specs.declared.heaps.Heaps.TheVariants.{All, Near, NoHeap, One}

-- the note is that of a call by which the pass came from the one to the other
pub record IsNoteOf (site : Site) (before after : Pass) (n : Note) : Type 0 where
  pub call : IsCall (Does (rule_of site.rule)
      (heaps_of site) site.number n.stamp n.asked n.heaps n.answer) before after n.heaps
  pub stamp : n.stamp ≡ after.stamp
  pub steps : n.steps ≡ call.steps

-- there is such a note of the pass p, of what was asked and answered
abbrev pub HasNote : Site → ℕ → Pass → Pass → Asked → Answer → Type 0
HasNote site p before after asked answer = (n : Note) × IsNoteOf site before after n × (n.pass ≡ p)
    × (n.asked ≡ asked) × (n.answer ≡ answer)

-- a command left no note: one that needs no heap was answered over no books; one that works in a
-- single heap was refused, since its lock or the stamp is at its last value; any other for the same
-- reason, or since there was no memory to hold more heaps than one; ZPOPNEAR in the two heaps that
-- it drew, or in all, where it has passed over those
abbrev pub HeldNoneIn : Heaps → Site → Command → ℕ → ℕ → Word → Pass → Pass → Type 0
HeldNoneIn NoHeap site command w1 w2 reply before after = (after ≡ before)
    × DoesCommand site after.stamp command reply [] []
HeldNoneIn (One heap) site command w1 w2 reply before after =
    IsWornOut (heap ∷ []) reply before after
HeldNoneIn Near site command w1 w2 reply before after =
    IsTurnedAway (drawn (heaps_of site) w1 w2) reply before after
    ⊎ (IsWornOut (all_heaps site) reply before after
    × HasFoundNone command before after (drawn (heaps_of site) w1 w2))
HeldNoneIn All site command w1 w2 reply before after =
    IsTurnedAway (all_heaps site) reply before after

-- the command was called by the two words, and is such a one
abbrev pub HeldNone : Site → Command → ℕ → ℕ → Word → Pass → Pass → Type 0
HeldNone site command w1 w2 reply before after =
    HeldNoneIn (named.heaps_of command (heaps_of site)) site command w1 w2 reply before after

-- a call that was made: its pass before and after it, and its note
pub record Call : Type 0 where
  pub before : Pass
  pub after : Pass
  pub note : Note

abbrev pub books_in : List LockedHeap → List Book
books_in found = map (λ (x : LockedHeap). x.book) found

abbrev pub notes_of : List Call → List Note
notes_of calls = map (λ c. c.note) calls

-- the call found these books in its heaps
pub record IsCallOver (site : Site) (books : Books) (c : Call) : Type 0 where
  pub is : IsNoteOf site c.before c.after c.note
  pub found : books_in is.call.found ≡ map books c.note.heaps

-- each call found in its heaps what those before it left there
abbrev pub AreCallsFrom : Site → Books → List Call → Type 0
AreCallsFrom site opening calls = (before : List Call) (c : Call) (after : List Call) →
    calls ≡ before ++ c ∷ after → IsCallOver site (left_by_all (notes_of before) opening) c

-- the call c may stand before d: stamps do not fall, and a pass makes its calls one after the other
pub record IsInTurn (c d : Call) : Type 0 where
  pub stamp : c.note.stamp ≤ d.note.stamp
  pub pass : c.note.pass ≡ d.note.pass → c.after.stamp ≤ d.before.stamp

abbrev pub AllInTurn : Call → List Call → Type 0
AllInTurn c [] = Unit {0}
AllInTurn c (d ∷ calls) = IsInTurn c d × AllInTurn c calls

abbrev pub AreInTurn : List Call → Type 0
AreInTurn [] = Unit {0}
AreInTurn (c ∷ calls) = AllInTurn c calls × AreInTurn calls

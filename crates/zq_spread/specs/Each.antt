-- Several things that a site is asked, as one call.

use Rattle.std.specs.Prelude.{List, ℕ, ◌++◌, ◌≡◌}
use Rattle.zq_dots.specs.Rule.{rule_of}
use Rattle.zq_model.specs.Books.{Book, Step}
use Rattle.zq_model.specs.Rule.{Rule}
use Rattle.zq_semantics.specs.Procedures.{Procedure, RunsAll}
use Rattle.zq_spread.specs.Calls.{IsCall}
use Rattle.zq_spread.specs.Commanded.{AreAppended}
use Rattle.zq_spread.specs.Dispatch.{HasHeldEach, all_heaps}
use Rattle.zq_spread.specs.declared.locked_heap.LockedHeap.{LockedHeap}
use Rattle.zq_spread.specs.declared.pass.Pass.{Pass}
use Rattle.zq_spread.specs.declared.site.Site.{Site}
use Rattle.zq_words.specs.Words.{Word}

-- the procedures ran over the books found, one after the other, with these replies, and the steps
-- are what they recorded there
pub record AreAnswered (rule : Rule) (site stamp : ℕ) (ps : List Procedure) (replies : List Word)
    (found : List Book) (steps : List (List Step)) : Type 0 where
  pub left : List Book
  pub ran : RunsAll rule site stamp ps found left replies
  pub appended : AreAppended left found steps

-- what the site does with them at a stamp
abbrev pub DoesEach : Site → ℕ → List Procedure → List Word → List Book → List (List Step) → Type 0
DoesEach site stamp ps replies = AreAnswered (rule_of site.rule) site.number stamp ps replies

-- a call of them in these heaps, which has found these values there, and has held each heap once
abbrev pub AreCalledOver : Site → List Procedure → List Word → Pass → Pass → List ℕ →
    List LockedHeap → Type 0
AreCalledOver site ps replies before after heaps found =
    (call : IsCall (DoesEach site after.stamp ps replies) before after heaps)
    × (call.found ≡ found) × HasHeldEach before after heaps

-- and its replies stand behind those that were there
abbrev pub HasCalledOver : Site → List Procedure → List Word → List Word → Pass → Pass → List ℕ →
    List LockedHeap → Type 0
HasCalledOver site ps earlier later before after heaps found = (replies : List Word)
    × (later ≡ earlier ++ replies) × AreCalledOver site ps replies before after heaps found

-- one call of them in these heaps, at one stamp, which has held each heap once
abbrev pub AreCalled : Site → List Procedure → List Word → Pass → Pass → List ℕ → Type 0
AreCalled site ps replies before after heaps =
    IsCall (DoesEach site after.stamp ps replies) before after heaps
    × HasHeldEach before after heaps

-- and its replies stand behind those that were there
abbrev pub HasCalledEach : Site → List Procedure → List Word → List Word → Pass → Pass → List ℕ →
    Type 0
HasCalledEach site ps earlier later before after heaps = (replies : List Word)
    × (later ≡ earlier ++ replies) × AreCalled site ps replies before after heaps

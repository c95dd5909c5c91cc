-- What is asked only where nothing that is watched was changed.

use Rattle.std.specs.Prelude.{Bool, List, None, Option, Some, [], false, map, true, ℕ, ◌&&◌, ◌++◌, ◌+◌, ◌∷◌, ◌≡◌}
use Rattle.zq_dots.specs.Rule.{rule_of}
use Rattle.zq_journal.specs.Untouched.{is_untouched}
use Rattle.zq_model.specs.Books.{Book, Step}
use Rattle.zq_model.specs.Reach.{begun}
use Rattle.zq_model.specs.Rule.{Rule}
use Rattle.zq_semantics.specs.Procedures.{Procedure}
use Rattle.zq_spread.specs.Answers.{IsShown}
use Rattle.zq_spread.specs.Calls.{IsCall}
use Rattle.zq_spread.specs.Dispatch.{HasHeldEach}
use Rattle.zq_spread.specs.Each.{AreAnswered}
use Rattle.zq_spread.specs.Watches.{Watch}
use Rattle.zq_spread.specs.declared.locked_heap.LockedHeap.{LockedHeap}
use Rattle.zq_spread.specs.declared.pass.Pass.{Pass}
use Rattle.zq_spread.specs.declared.site.Site.{Site}
use Rattle.zq_words.specs.Words.{Word}

-- ---- what is watched

-- the heaps from this number on have shown these vectors, each by a call of its own
abbrev pub AreShown : Pass → ℕ → List (List ℕ) → Pass → Type 0
AreShown before heap [] after = after ≡ before
AreShown before heap (vector ∷ vectors) after = (mid : Pass)
    × IsCall (IsShown vector) before mid (heap ∷ []) × AreShown mid (heap + 1) vectors after

-- each of these books says that none of the keys was changed since its heap had its vector; of a
-- heap without a vector nothing is known
abbrev pub are_untouched : List (List ℕ) → List Word → List Book → Bool
are_untouched vectors keys [] = true
are_untouched [] keys (book ∷ books) = false
are_untouched (vector ∷ vectors) keys (book ∷ books) =
    is_untouched vector keys book && are_untouched vectors keys books

-- so do the books that a call of this stamp found, as it begins with them
abbrev pub stays : Watch → ℕ → List Book → Bool
stays watch stamp found = are_untouched watch.vectors watch.keys (map (begun stamp) found)

-- ---- what is asked meanwhile

-- no step was made in any of the books
abbrev pub AreIdle : List Book → List (List Step) → Type 0
AreIdle found steps = steps ≡ map (λ (b : Book). []) found

-- the procedures ran over the books found, where what is watched stays; else nothing was done
abbrev pub AreAnsweredIf : Rule → ℕ → ℕ → Watch → List Procedure → Option (List Word) →
    List Book → List (List Step) → Type 0
AreAnsweredIf rule site stamp watch ps (Some replies) found steps =
    (stays watch stamp found ≡ true) × AreAnswered rule site stamp ps replies found steps
AreAnsweredIf rule site stamp watch ps None found steps =
    (stays watch stamp found ≡ false) × AreIdle found steps

-- what the site does with them at a stamp
abbrev pub DoesWatched : Site → ℕ → Watch → List Procedure → Option (List Word) → List Book →
    List (List Step) → Type 0
DoesWatched site stamp watch ps answer =
    AreAnsweredIf (rule_of site.rule) site.number stamp watch ps answer

-- one call of them in these heaps, at one stamp, which has held each heap once
abbrev pub AreWatched : Site → Watch → List Procedure → Option (List Word) → Pass → Pass →
    List ℕ → Type 0
AreWatched site watch ps answer before after heaps =
    IsCall (DoesWatched site after.stamp watch ps answer) before after heaps
    × HasHeldEach before after heaps

-- they ran, and their replies stand behind those that were there
abbrev pub HaveRun : Site → Watch → List Procedure → List Word → List Word → Pass → Pass →
    List ℕ → Type 0
HaveRun site watch ps earlier later before after heaps = (replies : List Word)
    × (later ≡ earlier ++ replies) × AreWatched site watch ps (Some replies) before after heaps

-- they ran, or they did not, since something that is watched was changed
abbrev pub HaveRunIf : Bool → Site → Watch → List Procedure → List Word → List Word → Pass →
    Pass → List ℕ → Type 0
HaveRunIf true site watch ps earlier later before after heaps =
    HaveRun site watch ps earlier later before after heaps
HaveRunIf false site watch ps earlier later before after heaps = (later ≡ earlier)
    × AreWatched site watch ps None before after heaps

-- a call in these heaps that did nothing, which has found these values there
abbrev pub IsIdleOver : Pass → Pass → List ℕ → List LockedHeap → Type 0
IsIdleOver before after heaps found = (call : IsCall AreIdle before after heaps)
    × (call.found ≡ found) × HasHeldEach before after heaps

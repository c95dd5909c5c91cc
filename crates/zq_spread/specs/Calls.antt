-- A call of a site.

use Rattle.std.specs.Prelude.{List, Some, [], length, map, max, ℕ, ◌+◌, ◌∷◌, ◌≡◌}
use Rattle.zq_dots.specs.Placed.{Placed}
use Rattle.zq_dots.specs.Rule.{rule_of}
use Rattle.zq_model.specs.Books.{Book, Step}
use Rattle.zq_model.specs.Reach.{IsWorked}
use Rattle.zq_model.specs.Heaps.{heap_of}
use Rattle.zq_model.specs.Sets.{IsIn}
use Rattle.zq_shard.specs.Shard.{HeapImage}
use Rattle.zq_spread.specs.LockedHeaps.{Follows}
use Rattle.zq_spread.specs.Passes.{seen_at, steps_at}
use Rattle.zq_spread.specs.Turns.{IsTurnAfter, turns_at}
use Rattle.zq_spread.specs.declared.locked_heap.LockedHeap.{LockedHeap}
use Rattle.zq_spread.specs.declared.pass.Pass.{Pass}
use Rattle.zq_spread.specs.declared.site.Site.{Site}
use Rattle.zq_ticketlock.specs.Steps.{FollowsSeen}

-- the number of its heaps
abbrev pub heaps_of : Site → ℕ
heaps_of site = length site.slots.items

-- the operation was made among as many heaps as the site's, and lies in its own
pub record IsOfSite (site : Site) (p : Placed) : Type 0 where
  pub heaps : p.heaps ≡ heaps_of site
  pub placed : heap_of p.operation.key p.operation.member p.heaps ≡ p.operation.heap

-- the heap is one of as many heaps as the site's, and of its rule
pub record IsLikeSite (site : Site) (s : HeapImage) : Type 0 where
  pub heaps : s.heaps ≡ heaps_of site
  pub rule : s.rule ≡ rule_of site.rule

-- a call's part in one heap: what it found there, which follows what the pass had seen, its own
-- steps on that, and what it left, which the pass has then seen; what it found is what the lock
-- gave, and what it left is what it put home
pub record IsWorkedIn (before after : Pass) (h : ℕ) (found left : LockedHeap)
    (steps : List Step) : Type 0 where
  pub follows : FollowsSeen Follows found (seen_at before h)
  pub worked : IsWorked left.book found.book after.stamp steps
  pub seen : seen_at after h ≡ Some left
  pub own : steps_at after h ≡ steps_at before h + length steps
  pub turn : IsTurnAfter found left (turns_at after h) (turns_at before h)

-- its parts in each of its heaps
abbrev pub AreWorkedIn : Pass → Pass → List ℕ → List LockedHeap → List LockedHeap →
    List (List Step) → Type 0
AreWorkedIn before after [] [] [] [] = Unit {0}
AreWorkedIn before after (h ∷ heaps) (x ∷ found) (y ∷ left) (ss ∷ steps) =
    IsWorkedIn before after h x y ss × AreWorkedIn before after heaps found left steps
AreWorkedIn before after heaps found left steps = ⊥

abbrev pub greatest_stamp : List LockedHeap → ℕ
greatest_stamp [] = 0
greatest_stamp (x ∷ found) = max x.book.stamp (greatest_stamp found)

-- a call of a pass in these heaps: its stamp is the one after the greatest that it found in them
-- and in the pass; its own steps follow in each, at that stamp; the pass then has seen what was
-- left there, and of other heaps what it had, and it has held no other; the answer and the steps
-- are what the call does over the books found
pub record IsCall (Does : List Book → List (List Step) →
    Type 0) (before after : Pass) (heaps : List ℕ) : Type 0 where
  pub found : List LockedHeap
  pub left : List LockedHeap
  pub steps : List (List Step)
  pub next : after.stamp ≡ max before.stamp (greatest_stamp found) + 1
  pub worked : AreWorkedIn before after heaps found left steps
  pub others : (k : ℕ) → (IsIn k heaps → ⊥) → (seen_at after k ≡ seen_at before k)
      × (steps_at after k ≡ steps_at before k) × (turns_at after k ≡ turns_at before k)
  pub done : Does (map (λ x. x.book) found) steps

-- the pass has seen a book of this heap with this property
abbrev pub HasSeenBook : Pass → ℕ → (Book → Type 0) → Type 0
HasSeenBook pass h P = (x : LockedHeap) × (seen_at pass h ≡ Some x) × P x.book

-- What may happen: calls over what the site's calls left since it last began, of which what is
-- taken and merged is left; and starts behind a crash, by which a site has again what it made and
-- anybody has.

use Rattle.std.specs.Prelude.{List, [], ℕ, ◌++◌, ◌∷◌, ◌≡◌}
use Rattle.zq_dots.specs.Rule.{rule_of}
use Rattle.zq_model.specs.Books.{Book, Change, HandedOn, Made, Merged, Recorded, Step, Took, TookOver}
use Rattle.zq_model.specs.Image.{Image, image_of, join}
use Rattle.zq_model.specs.Operation.{Operation}
use Rattle.zq_model.specs.Rule.{Rule}
use Rattle.zq_model.specs.Sets.{IsClosed, IsIn}
use Rattle.zq_notes.specs.Calls.{IsCallOver}
use Rattle.zq_notes.specs.Sites.{Event}
use Rattle.zq_recovery.specs.Laws.{IsWithin}
use Rattle.zq_restarts.specs.Runs.{Called, Happening, Restart, Restarted, State, reached}
use Rattle.zq_spread.specs.Calls.{heaps_of}
use Rattle.zq_spread.specs.declared.site.Site.{Site}

-- ---- what reaches a site

-- an operation that is taken is left
abbrev pub IsSent : State → Change → Type 0
IsSent now (Made o) = Unit {0}
IsSent now (Took o) = IsIn o now.left

-- the image is what some site had in the heap h, now or before, and all of that is left now
pub record WasHad (opening : State) (before : List Happening) (h : ℕ) (a : Image) : Type 0 where
  pub site : ℕ
  pub past : List Happening
  pub later : List Happening
  pub split : before ≡ past ++ later
  pub image : a ≡ ((reached opening past).books site h).state
  pub left : (o : Operation) → IsIn o ((reached opening past).has site) → o.heap ≡ h →
      IsIn o (reached opening before).left

-- an image that a site merges in the heap h is such a one; and one that the site s takes over there
-- is what it has and such a one, joined
abbrev pub IsBrought : State → List Happening → ℕ → ℕ → Step → Type 0
IsBrought opening before s h (Recorded r) = IsSent (reached opening before) r.change
IsBrought opening before s h (Merged stamp other) = WasHad opening before h other
IsBrought opening before s h (HandedOn stamp handed) = Unit {0}
IsBrought opening before s h (TookOver stamp other) = (a : Image) × WasHad opening before h a
    × (other ≡ join ((reached opening before).books s h).state a)

abbrev pub AreBrought : State → List Happening → ℕ → ℕ → List Step → Type 0
AreBrought opening before s h [] = Unit {0}
AreBrought opening before s h (step ∷ steps) = IsBrought opening before s h step
    × AreBrought opening before s h steps

abbrev pub AreBroughtIn : State → List Happening → ℕ → List ℕ → List (List Step) → Type 0
AreBroughtIn opening before s [] steps = Unit {0}
AreBroughtIn opening before s (h ∷ heaps) [] = Unit {0}
AreBroughtIn opening before s (h ∷ heaps) (ss ∷ steps) = AreBrought opening before s h ss
    × AreBroughtIn opening before s heaps steps

module _ (rule : Rule) (K : ℕ) where
  -- ---- calls

  -- the event is a call of the site of its number, of this rule and of K heaps, over what that
  -- site's calls left since it last began, and what it takes, merges and takes over reached it
  pub record IsCallAfter (opening : State) (before : List Happening) (e : Event) : Type 0 where
    pub site : Site
    pub number : site.number ≡ e.site
    pub heaps : heaps_of site ≡ K
    pub ruled : rule_of site.rule ≡ rule
    pub call : IsCallOver site ((reached opening before).books e.site) e.call
    pub brought : AreBroughtIn opening before e.site e.call.note.heaps e.call.note.steps

  -- ---- starts behind a crash

  -- the book of the heap h begins with this image, and has nothing to replay
  pub record IsBegunWith (h : ℕ) (a : Image) (b : Book) : Type 0 where
    pub heap : b.heap ≡ h
    pub heaps : b.heaps ≡ K
    pub ruled : b.rule ≡ rule
    pub image : b.state ≡ a
    pub base : b.base ≡ a
    pub tail : b.tail ≡ []

  -- A crash takes all heaps of a site, and of its log what was not synced. It begins again with the
  -- images of a closed set. What is left then is nothing new: what it has again, all that the other
  -- sites have, and what is on the way. Of that it has again all that it made, which was in its log
  -- before it was sent.
  pub record IsRestartOver (now : State) (r : Restart) : Type 0 where
    pub closed : IsClosed r.again
    pub books : (h : ℕ) → IsBegunWith h (image_of r.again h) (r.books h)
    pub left : IsWithin r.left now.left
    pub here : IsWithin r.again r.left
    pub there : (s : ℕ) → (s ≡ r.site → ⊥) → IsWithin (now.has s) r.left
    pub own : (o : Operation) → IsIn o r.left → o.site ≡ r.site → IsIn o r.again

  -- ---- both

  abbrev pub IsAfter : State → List Happening → Happening → Type 0
  IsAfter opening before (Called e) = IsCallAfter opening before e
  IsAfter opening before (Restarted r) = IsRestartOver (reached opening before) r

  -- each of these happened where it stands
  abbrev pub AreAfter : State → List Happening → Type 0
  AreAfter opening happenings = (before : List Happening) (x : Happening) (later : List Happening) →
      happenings ≡ before ++ x ∷ later → IsAfter opening before x

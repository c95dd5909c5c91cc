-- How sites stand that may begin, or go on.

use Rattle.std.specs.Prelude.{ℕ, ◌≡◌}
use Rattle.zq_model.specs.Operation.{Operation}
use Rattle.zq_model.specs.Rule.{Rule}
use Rattle.zq_model.specs.Sets.{IsIn, IsMade, IsWorld}
use Rattle.zq_notes.specs.Gathered.{AreImagesOf}
use Rattle.zq_restarts.specs.Runs.{State}

module _ (rule : Rule) (K : ℕ) (now : State) where
  -- All that is left anywhere is one world. Each heap is the image of what its site has, which is a
  -- closed set of that world, and has all of it that the site made.
  pub record IsStanding : Type 0 where
    pub world : IsWorld K now.left
    pub images : (s : ℕ) → AreImagesOf rule K now.left (now.has s) (now.books s)
    pub own : (o : Operation) → IsIn o now.left → IsIn o (now.has o.site)

  -- what a site makes next has a dot that no operation has which is left anywhere
  abbrev pub MakesNew : Type 0
  MakesNew = (o : Operation) → IsMade K (now.has o.site) o → (p : Operation) → IsIn p now.left →
      p.heap ≡ o.heap → p.site ≡ o.site → p.n ≡ o.n → ⊥

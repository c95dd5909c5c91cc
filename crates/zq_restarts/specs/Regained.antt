-- A site that begins again with what was read of its log.

use Rattle.std.specs.Prelude.{List, slice_index, ℕ, ◌++◌, ◌<◌, ◌≡◌, ◌≤◌}
use Rattle.zq_keeper.specs.Laws.{IsRegained}
use Rattle.zq_model.specs.Image.{empty_image}
use Rattle.zq_model.specs.Operation.{Operation}
use Rattle.zq_model.specs.Rule.{Rule}
use Rattle.zq_model.specs.Sets.{IsIn}
use Rattle.zq_notes.specs.Notes.{Books}
use Rattle.zq_recovery.specs.Laws.{IsWithin}
use Rattle.zq_restarts.specs.Reached.{IsBegunWith, IsRestartOver}
use Rattle.zq_restarts.specs.Runs.{State}
use Rattle.zq_stage.specs.Piece.{Staged}
use Rattle.zq_stage.specs.Staged.{AreAllBrought}

-- the heap h, of K, was read again, with all of its members: it is that of operations that the site
-- had, and has all that were told as durable
pub record IsReadAgain (K : ℕ) (had : List Operation) (h : ℕ) (told : List ℕ) (t : Staged) : Type 0
  where
    pub heap : t.held.heap ≡ h
    pub regained : IsRegained K h had told t
    pub brought : AreAllBrought regained.behind.begun regained.behind.rows regained.behind.set h

-- The site of this number begins with such heaps. Elsewhere, at the other sites and on the way, is
-- nothing new, all that these sites have, and nothing that it made and was not told as durable.
pub record IsReadOver (rule : Rule) (K : ℕ) (now : State) (site : ℕ) (told : ℕ → List ℕ)
    (stages : ℕ → Staged) (books : Books) (elsewhere : List Operation) : Type 0 where
  pub read : (h : ℕ) → h < K → IsReadAgain K (now.has site) h (told h) (stages h)
  pub books_are : (h : ℕ) → h < K → IsBegunWith rule K h (stages h).held.image (books h)
  pub none : (h : ℕ) → K ≤ h → IsBegunWith rule K h empty_image (books h)
  pub left : IsWithin elsewhere now.left
  pub there : (s : ℕ) → (s ≡ site → ⊥) → IsWithin (now.has s) elsewhere
  pub is_told : (o : Operation) → IsIn o elsewhere → o.site ≡ site →
      o.n ≤ slice_index (told o.heap) site

-- That is a start behind a crash, with a part of what the site had, and all of it that was told.
pub record IsRegainedOver (rule : Rule) (K : ℕ) (now : State) (site : ℕ) (told : ℕ → List ℕ)
    (books : Books) (elsewhere : List Operation) : Type 0 where
  pub again : List Operation
  pub restarts : IsRestartOver rule K now (record {
    site = site;
    books = books;
    again = again;
    left = again ++ elsewhere;
  })
  pub had : IsWithin again (now.has site)
  pub has_told : (o : Operation) → IsIn o (now.has site) →
      o.n ≤ slice_index (told o.heap) o.site → IsIn o again

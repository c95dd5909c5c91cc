-- All that a stage hears leaves one.

use Rattle.std.proofs.Common.{List, [], inl, inr, refl, subst, ℕ, ◌++◌, ◌∷◌, ◌≡◌}
use Rattle.zq_model.proofs.Membership.{in_union}
use Rattle.zq_model.proofs.Taken.{taken_known}
use Rattle.zq_model.proofs.Worlds.{world_part}
use Rattle.zq_model.specs.Image.{image_taken, image_when}
use Rattle.zq_model.specs.Operation.{Operation}
use Rattle.zq_model.specs.Rows.{Row, rows_of}
use Rattle.zq_model.specs.Sets.{Early, IsIn, IsWorld, Known, New, Taken, taken_of}
use Rattle.zq_shard.specs.Shard.{HeapImage}
use Rattle.zq_stage.proofs.Stages.{knows, replaces, takes}
use Rattle.zq_stage.specs.Rows.{with_image, with_rows}
use Rattle.zq_stage.specs.Staged.{IsStaged}
use Rattle.zq_stage.specs.Stream.{AllFit, Came, Heard, Took, after_all, rows_after, set_after}

module _ (W : List Operation) (v : List ℕ) where
  -- an operation that is not early
  one_more : (rows : List Row) (S : List Operation) (o : Operation) (s : HeapImage) (answer : Taken) → taken_of s.image.vector o ≡ answer → (answer ≡ Early → ⊥) → IsStaged v rows S s → IsWorld s.heaps (o ∷ S) → o.heap ≡ s.heap →
      IsStaged v rows (o ∷ S) (with_image s (image_when answer o s.image))
  one_more rows S o s New is apart staged world here = takes v rows S o s staged world here is
  one_more rows S o s Known is apart staged world here = knows v rows S o s staged world here (taken_known s.image.vector o is)
  one_more rows S o s Early is apart staged world here = absurd (apart refl)

  pub stream : (heard : List Heard) (rows : List Row) (S : List Operation) (s : HeapImage) → IsWorld s.heaps W → ((o : Operation) → IsIn o S → IsIn o W) → IsStaged v rows S s → AllFit W s heard →
      IsStaged v (rows_after heard rows) (set_after heard S) (after_all heard s)
  stream [] rows S s world within is fit = is
  stream (Took o ∷ heard) rows S s world within is fit =
      let more : (p : Operation) → IsIn p (o ∷ S) → IsIn p W = λ p i. elim i [ inl e ↦ subst (λ x. IsIn x W) e fit.0.0 | inr there ↦ within p there ] in
      let next : HeapImage = with_image s (image_taken o s.image) in
      stream heard rows (o ∷ S) next world more
      (one_more rows S o s (taken_of s.image.vector o) refl fit.0.2 is (world_part s.heaps (o ∷ S) W more world) fit.0.1) fit.1
  stream (Came T piece ∷ heard) rows S s world within is fit =
      let both : (p : Operation) → IsIn p (S ++ T) → IsIn p W = λ p i. elim (in_union p S T i) [ inl a ↦ within p a | inr b ↦ fit.0.0 p b ] in
      let next : HeapImage = with_image s (with_rows (rows_of piece.image) s.image) in
      stream heard (rows_of piece.image ++ rows) S next world within
      (replaces v rows (rows_of piece.image) S T s piece is fit.0.1 fit.0.2 (world_part s.heaps (S ++ T) W both world) fit.0.3 (λ row i. i)) fit.1

-- The scores of members in images and in joins of images, from the sets.

use Rattle.std.proofs.Common.{ℕ, ◌≡◌, List, ap, ◌∙◌}
use Rattle.zq_model.specs.Examples.{image_score}
use Rattle.zq_model.specs.Image.{Entry, entry_at, entry_of, image_of, join, join_entry, join_vector}
use Rattle.zq_model.specs.Operation.{Operation}
use Rattle.zq_model.specs.Rule.{Rule}
use Rattle.zq_model.specs.Score.{score_of}
use Rattle.zq_model.specs.Sets.{vector_of}
use Rattle.zq_model.proofs.Entries.{entry_at-image_of}
use Rattle.zq_model.proofs.JoinAt.{entry_at-join}

module _ (rule : Rule) (S T : List Operation) (h : ℕ) (k m : List ℕ) where
  abbrev pub joined_entry : Entry
  joined_entry = join_entry (vector_of S h) (vector_of T h) (entry_of S h (k, m)) (entry_of T h (k, m))

  joined_at : entry_at (join (image_of S h) (image_of T h)).members (k, m) ≡ joined_entry
  joined_at =
      entry_at-join (image_of S h) (image_of T h) (k, m)
      ∙ (λ i. join_entry (vector_of S h) (vector_of T h) (entry_at-image_of S h (k, m) i) (entry_at-image_of T h (k, m) i))

  pub image_score_is : image_score rule (image_of S h) k m ≡ score_of rule (entry_of S h (k, m))
  image_score_is = ap (score_of rule) (entry_at-image_of S h (k, m))

  pub join_score_is : image_score rule (join (image_of S h) (image_of T h)) k m ≡ score_of rule joined_entry
  join_score_is = ap (score_of rule) joined_at

  -- where the second image comes again
  abbrev pub joined_again : Entry
  joined_again = join_entry (join_vector (vector_of S h) (vector_of T h)) (vector_of T h) joined_entry (entry_of T h (k, m))

  pub join_again_is : image_score rule (join (join (image_of S h) (image_of T h)) (image_of T h)) k m ≡ score_of rule joined_again
  join_again_is = ap (score_of rule)
      (entry_at-join (join (image_of S h) (image_of T h)) (image_of T h) (k, m)
      ∙ (λ i. join_entry (join_vector (vector_of S h) (vector_of T h)) (vector_of T h) (joined_at i) (entry_at-image_of T h (k, m) i)))

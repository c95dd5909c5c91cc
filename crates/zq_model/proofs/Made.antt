-- What a site makes: an operation that is new to its set.

use Rattle.std.proofs.Common.{List, ap, arith, get_or, le_of_eq, le_trans, length, ℕ, ◌+◌, ◌∙◌, ◌∷◌, ◌≡◌, ◌≤◌}
use Rattle.zq_model.proofs.Dots.{last_below}
use Rattle.zq_model.proofs.NewOperation.{closed_after, new_has_seen, world_after}
use Rattle.zq_model.proofs.Sites.{length-by_site}
use Rattle.zq_model.proofs.StepImages.{image_of-step}
use Rattle.zq_model.proofs.Worlds.{vector_is}
use Rattle.zq_model.specs.Image.{image_after, image_of}
use Rattle.zq_model.specs.Operation.{Operation}
use Rattle.zq_model.specs.Sets.{IsClosed, IsMade, IsNew, IsOperation, IsWorld, LAST, last}

made_seen : (K : ℕ) (S : List Operation) (o : Operation) (t : ℕ) → IsWorld K S → IsMade K S o → get_or o.seen t 0 ≡ last S o.heap t
made_seen K S o t world made = ap (λ v. get_or v t 0) made.seen ∙ (vector_is K S o.heap world).counter t

pub made_new : (K : ℕ) (S : List Operation) (o : Operation) → IsWorld K S → IsMade K S o → IsNew S o
made_new K S o world made = record {
  covered = λ t. le_of_eq (made_seen K S o t world made);
  fresh = let is : get_or o.seen o.site 0 ≡ last S o.heap o.site = made_seen K S o o.site world made in
      let next : o.n ≡ get_or o.seen o.site 0 + 1 = made.n in omega arith;
}

pub last_bounded : (K : ℕ) (S : List Operation) (h t : ℕ) → IsWorld K S → last S h t ≤ LAST
last_bounded K S h t world = last_below S h t LAST (λ o i _ _. (world.each o i).bounded)

pub made_operation : (K : ℕ) (S : List Operation) (o : Operation) → IsWorld K S → IsMade K S o → IsOperation K o
made_operation K S o world made = record {
  heaps = made.heaps;
  act = made.act;
  heap = made.heap;
  site = made.site;
  seen = record {
    wide = ap length made.seen ∙ length-by_site (last S o.heap);
    bounded = λ t. le_trans (le_of_eq (made_seen K S o t world made)) (last_bounded K S o.heap t world);
  };
  next = made.n;
  bounded = made.bounded;
}

pub making_world : (K : ℕ) (S : List Operation) (o : Operation) → IsWorld K S → IsClosed S → IsMade K S o → IsWorld K (o ∷ S)
making_world K S o world closed made = world_after K S o world (made_operation K S o world made) (made_new K S o world made)

pub making_closed : (K : ℕ) (S : List Operation) (o : Operation) → IsWorld K S → IsClosed S → IsMade K S o → IsClosed (o ∷ S)
making_closed K S o world closed made = closed_after S o closed (new_has_seen K S o world closed (made_new K S o world made))

pub making_image : (K : ℕ) (S : List Operation) (o : Operation) → IsWorld K S → IsClosed S → IsMade K S o →
    image_of (o ∷ S) o.heap ≡ image_after o (image_of S o.heap)
making_image K S o world closed made = image_of-step K S o (making_world K S o world closed made) closed (made_new K S o world made)

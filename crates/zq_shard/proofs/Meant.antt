-- What an image has of a key is what its set means.

use Rattle.std.proofs.Common.{List, None, Option, Some, [], ap, refl, sym, ℕ, ℤ, ◌∙◌, ◌∷◌, ◌≡◌, ◌↔◌}
use Rattle.zq_model.proofs.MeantQueues.{queue_is, queue_one}
use Rattle.zq_model.proofs.MeantScores.{no_score, score_heap, score_in, score_is, score_there}
use Rattle.zq_model.specs.Heaps.{heap_of}
use Rattle.zq_model.specs.Image.{Image, entry_at}
use Rattle.zq_model.specs.Meaning.{IsLive, IsScore, Scored}
use Rattle.zq_model.specs.Operation.{Operation}
use Rattle.zq_model.specs.Queue.{queue_of}
use Rattle.zq_model.specs.Score.{score_of}
use Rattle.std.specs.Prelude.{drop, suc, take, zero, ◌-◌}
use Rattle.zq_queue.specs.Listed.{part}
use Rattle.zq_shard.specs.Shard.{HeapImage, HoldsImage, IsMeant, queue_at}

module _ (s : HeapImage) (S : List Operation) (key : List ℕ) (holds : HoldsImage s S) where
  module _ (member : List ℕ) (r : Option ℤ) (is : r ≡ score_of s.rule (entry_at s.image.members (key, member))) where
    of_set : r ≡ score_in s.rule S s.heap key member
    of_set = is ∙ ap (λ (a : Image). score_of s.rule (entry_at a.members (key, member))) holds.image

    pub score_meant : (x : ℤ) → (r ≡ Some x) ↔ ((heap_of key member s.heaps ≡ s.heap) × IsScore s.rule S key member x)
    score_meant x = (
      λ some.
          let there = sym of_set ∙ some in
          (score_heap s.rule s.heaps S s.heap key member holds.world x there, score_is s.rule s.heaps S s.heap key member holds.world x there),
      λ means. of_set ∙ score_there s.rule s.heaps S s.heap key member holds.world x means.0 means.1,
    )

    pub score_absent : (r ≡ None) ↔ (heap_of key member s.heaps ≡ s.heap → (p : Operation) → IsLive S key member p → ⊥)
    score_absent = (
      λ none here. no_score s.rule s.heaps S s.heap key member holds.world here (sym of_set ∙ none),
      λ dead. elim r as (λ o. r ≡ o → o ≡ None) [
        | None ↦ λ e. refl
        | Some x ↦ λ e.
            let means = (score_meant x).0 e in
            absurd (dead means.0 means.1.reached.0 means.1.reached.1)
      ] refl,
    )

-- the queue of the image is the one that the set means, and there is no other
pub queue_meant : (s : HeapImage) (S : List Operation) (key : List ℕ) (q : List Scored) → IsMeant s S key q → queue_at s key ≡ q
queue_meant s S key q meant =
    ap (λ (a : Image). queue_of s.rule key (a.members ∷ [])) meant.holds.image
    ∙ queue_one s.rule s.heaps S key (s.heap ∷ []) _ q (queue_is s.rule s.heaps S key (s.heap ∷ []) meant.holds.world) meant.queue

-- nothing of nothing
pub take_nothing : {X : Type 0} (n : ℕ) → ◌≡◌ {A = List X} [] (take n [])
take_nothing zero = refl
take_nothing (suc n) = refl

pub part_nothing : {X : Type 0} (from to : ℕ) → ◌≡◌ {A = List X} [] (part from to [])
part_nothing {X} from to = take_nothing (to - from) ∙ ap (take (to - from)) (drop_nothing from)
  where
    drop_nothing : (n : ℕ) → ◌≡◌ {A = List X} [] (drop n [])
    drop_nothing zero = refl
    drop_nothing (suc n) = refl

-- Sets with the same operations of a heap have the same image in it.

use Rattle.std.proofs.Common.{List, None, Option, Some, T, ap, refl, sym, ℕ, ℤ, ◌∙◌, ◌≡◌}
use Rattle.zq_model.proofs.Entries.{get-image_of, image_from}
use Rattle.zq_model.proofs.Sites.{by_site-same}
use Rattle.zq_model.proofs.Standing.{IsStanding, addition_is, addition_none, is_dead_same, live_none, live_some, standing_heap}
use Rattle.zq_model.proofs.Sums.{site_sum-same}
use Rattle.zq_model.proofs.Worlds.{IsWithin_heap, last_same, world_part}
use Rattle.zq_model.specs.Entry.{Addition, addition, addition_of, live}
use Rattle.zq_model.specs.Image.{image_of, unless_bare}
use Rattle.zq_model.specs.Operation.{Operation, score_put}
use Rattle.zq_model.specs.Sets.{AreSame, IsWorld}

-- the addition of a Put with these sums
abbrev pub addition_with : Operation → List ℤ → Option Addition
addition_with o sums = Some (record { n = o.n; score = score_put o.act; sums = sums })

pub standing_same : (S T : List Operation) (h : ℕ) (k m : List ℕ) (s : ℕ) (o : Operation) → IsWithin_heap h S T → IsWithin_heap h T S →
    IsStanding S h k m s o → IsStanding T h k m s o
standing_same S T h k m s o forth back a = record {
  here = forth o a.here (standing_heap a);
  put = a.put;
  kept = is_dead_same T S h k m s o.n back a.kept;
}

pub addition_of-same : (K : ℕ) (S T : List Operation) (h : ℕ) (k m : List ℕ) (s : ℕ) → IsWorld K S → IsWorld K T → IsWithin_heap h S T → IsWithin_heap h T S →
    addition_of S h k m s ≡ addition_of T h k m s
addition_of-same K S T h k m s first second forth back =
    elim (live S h k m s) as (λ r. live S h k m s ≡ r → addition S h k m s r ≡ addition_of T h k m s) [
      | None ↦ λ e. sym (addition_none T h k m s (λ o a. live_none S h k m s o e (standing_same T S h k m s o back forth a)))
      | Some o ↦ λ e.
          ap (addition_with o) (by_site-same _ _ (λ t _. site_sum-same K S T h k m s o.n t first second forth back))
          ∙ sym (addition_is K T h k m s o second (standing_same S T h k m s o forth back (live_some S h k m s o e)))
    ] refl

pub image_of-same_heap : (K : ℕ) (S T : List Operation) (h : ℕ) → IsWorld K S → IsWorld K T → IsWithin_heap h S T → IsWithin_heap h T S → image_of S h ≡ image_of T h
image_of-same_heap K S T h first second forth back =
    image_from (image_of S h) T h
    (by_site-same _ _ (λ t _. last_same S T h t forth back))
    (λ q. get-image_of S h q ∙ ap unless_bare (by_site-same _ _ (λ s _. addition_of-same K S T h q.0 q.1 s first second forth back)))

pub image_of-same : (K : ℕ) (S T : List Operation) (h : ℕ) → AreSame S T → IsWorld K S → image_of S h ≡ image_of T h
image_of-same K S T h same world =
    image_of-same_heap K S T h world (world_part K T S same.back world) (λ o i _. same.forth o i) (λ o i _. same.back o i)

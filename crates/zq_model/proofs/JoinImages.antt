-- The join of the images of closed sets of one world is the image of their union.

use Rattle.std.proofs.Common.{List, T, ap, append_assoc, ap₂, arith, max, subst, sym, ℕ, ◌++◌, ◌∙◌, ◌≡◌, ◌≢◌, ◌≤◌}
use Rattle.std.specs.FinMap.{get-empty}
use Rattle.zq_model.proofs.Dots.{last-union, last_below}
use Rattle.zq_model.proofs.Entries.{addition_at-image_of, get-join, image_from, unless_bare-none}
use Rattle.zq_model.proofs.JoinSites.{join_site-union}
use Rattle.zq_model.proofs.Same.{image_of-same}
use Rattle.zq_model.proofs.Sites.{by_site-at, by_site-same}
use Rattle.zq_model.proofs.Standing.{addition_none, standing_heap}
use Rattle.zq_model.proofs.Worlds.{closed_union, union_turned, union_twice, world_left, world_right, world_swapped, world_twice}
use Rattle.zq_model.specs.Entry.{join_site}
use Rattle.zq_model.specs.Image.{empty_image, image_of, join, place_cmp, unless_bare}
use Rattle.zq_model.specs.Operation.{Operation}
use Rattle.zq_model.specs.Sets.{IsClosed, IsIn, IsWorld, last, vector_of}

pub join-union : (K : ℕ) (S T : List Operation) (h : ℕ) → IsWorld K (S ++ T) → IsClosed S → IsClosed T → join (image_of S h) (image_of T h) ≡ image_of (S ++ T) h
join-union K S T h world first second =
    image_from (join (image_of S h) (image_of T h)) (S ++ T) h
    (by_site-same _ _ (λ t below.
    ap₂ (λ x y. max x y) (by_site-at (last S h) t 0 below) (by_site-at (last T h) t 0 below) ∙ sym (last-union S T h t)))
    (λ q. get-join (image_of S h) (image_of T h) q ∙ ap unless_bare (by_site-same _ _ (λ s below.
    ap₂ (join_site (vector_of S h) (vector_of T h) s) (addition_at-image_of S h q s below) (addition_at-image_of T h q s below)
    ∙ join_site-union K S T h q.0 q.1 s below world first second)))

pub join_turned : (K : ℕ) (S T : List Operation) (h : ℕ) → IsWorld K (S ++ T) → IsClosed S → IsClosed T →
    join (image_of S h) (image_of T h) ≡ join (image_of T h) (image_of S h)
join_turned K S T h world first second =
    join-union K S T h world first second
    ∙ image_of-same K (S ++ T) (T ++ S) h (union_turned S T) world
    ∙ sym (join-union K T S h (world_swapped K S T world) second first)

pub join_itself : (K : ℕ) (S : List Operation) (h : ℕ) → IsWorld K S → IsClosed S → join (image_of S h) (image_of S h) ≡ image_of S h
join_itself K S h world closed =
    join-union K S S h (world_twice K S world) closed closed
    ∙ image_of-same K (S ++ S) S h (union_twice S) (world_twice K S world)

pub join_grouped : (K : ℕ) (S T U : List Operation) (h : ℕ) → IsWorld K (S ++ (T ++ U)) → IsClosed S → IsClosed T → IsClosed U →
    join (join (image_of S h) (image_of T h)) (image_of U h) ≡ join (image_of S h) (join (image_of T h) (image_of U h))
join_grouped K S T U h world first second third =
    let left : IsWorld K ((S ++ T) ++ U) = subst (IsWorld K) (sym (append_assoc S T U)) world in
    ap (λ a. join a (image_of U h)) (join-union K S T h (world_left K (S ++ T) U left) first second)
    ∙ join-union K (S ++ T) U h left (closed_union S T first second) third
    ∙ ap (λ W. image_of W h) (append_assoc S T U)
    ∙ sym (ap (join (image_of S h)) (join-union K T U h (world_right K S (T ++ U) world) second third)
    ∙ join-union K S (T ++ U) h world first (closed_union T U second third))

-- a set without an operation of the heap has the empty image there
pub image_of-nothing : (S : List Operation) (h : ℕ) → ((o : Operation) → IsIn o S → o.heap ≢ h) → image_of S h ≡ empty_image
image_of-nothing S h none = sym (image_from empty_image S h
    (sym (by_site-same _ _ (λ t _. let most : last S h t ≤ 0 = last_below S h t 0 (λ o i a _. absurd (none o i a)) in omega arith)))
    (λ q. get-empty place_cmp q ∙ sym (unless_bare-none _ (λ s _. addition_none S h q.0 q.1 s (λ o a. none o a.here (standing_heap a))))))

-- A set with a tail over it: what is in it, that it is closed, the steps that lead to its image, and that they tell the tail.

use Rattle.std.proofs.Common.{List, [], ap, arith, get_or, inl, inr, refl, subst, sym, ℕ, ◌<◌, ◌∙◌, ◌∷◌, ◌≡◌, ◌≤◌}
use Rattle.zq_model.proofs.Dots.{has_not_from}
use Rattle.zq_model.proofs.NewOperation.{closed_after, new_has_seen, world_rest}
use Rattle.zq_model.proofs.Sites.{by_site-at}
use Rattle.zq_model.proofs.StepImages.{image_of-step}
use Rattle.zq_model.proofs.Taken.{covers_from, taken_from, taking_new}
use Rattle.zq_model.proofs.Worlds.{last_within, vector_is, world_part}
use Rattle.zq_model.specs.Image.{image_after, image_of}
use Rattle.zq_model.specs.Operation.{Operation}
use Rattle.zq_model.specs.Sets.{IsClosed, IsIn, IsNew, IsVector, IsWorld, New, SITES, last, taken_of, vector_of}
use Rattle.zq_model.specs.Tail.{AreNew, IsTail, image_after_all, tail_set}

pub base_in : (x : Operation) (S tail : List Operation) → IsIn x S → IsIn x (tail_set S tail)
base_in x S [] i = i
base_in x S (o ∷ tail) i = base_in x (o ∷ S) tail (inr i)

pub tail_in : (x : Operation) (S tail : List Operation) → IsIn x tail → IsIn x (tail_set S tail)
tail_in x S [] i = absurd i
tail_in x S (o ∷ tail) (inl e) = base_in x (o ∷ S) tail (inl e)
tail_in x S (o ∷ tail) (inr i) = tail_in x (o ∷ S) tail i

pub world_base : (K : ℕ) (S tail : List Operation) → IsWorld K (tail_set S tail) → IsWorld K S
world_base K S tail = world_part K S (tail_set S tail) (λ x. base_in x S tail)

-- an operation of the tail lies in the heap, above the set's last of its site
pub tail_above : (h : ℕ) (S tail : List Operation) (p : Operation) → IsTail h S tail → IsIn p tail → (p.heap ≡ h) × (last S h p.site < p.n)
tail_above h S [] p tailed i = absurd i
tail_above h S (o ∷ tail) p tailed (inl e) =
    subst (λ x. (x.heap ≡ h) × (last S h x.site < x.n)) e (tailed.1, subst (λ x. last S x o.site < o.n) tailed.1 tailed.0.fresh)
tail_above h S (o ∷ tail) p tailed (inr i) =
    let rest : (p.heap ≡ h) × (last (o ∷ S) h p.site < p.n) = tail_above h (o ∷ S) tail p tailed.2 i in
    let less : last S h p.site ≤ last (o ∷ S) h p.site = last_within S (o ∷ S) h p.site (λ x j _. inr j) in
    (rest.0, omega arith)

pub closed_step : (K h : ℕ) (S tail : List Operation) (o : Operation) → IsWorld K (tail_set (o ∷ S) tail) → IsClosed S → IsNew S o → IsClosed (o ∷ S)
closed_step K h S tail o world closed new =
    closed_after S o closed (new_has_seen K S o (world_rest K S o (world_base K (o ∷ S) tail world)) closed new)

pub tail_closed : (K h : ℕ) (S tail : List Operation) → IsWorld K (tail_set S tail) → IsClosed S → IsTail h S tail → IsClosed (tail_set S tail)
tail_closed K h S [] world closed tailed = closed
tail_closed K h S (o ∷ tail) world closed tailed = tail_closed K h (o ∷ S) tail world (closed_step K h S tail o world closed tailed.0) tailed.2

-- the step of an image, in a heap that is the operation's
pub step_in_heap : (K h : ℕ) (S : List Operation) (o : Operation) → IsWorld K (o ∷ S) → IsClosed S → IsNew S o → o.heap ≡ h →
    image_of (o ∷ S) h ≡ image_after o (image_of S h)
step_in_heap K h S o world closed new e = subst (λ x. image_of (o ∷ S) x ≡ image_after o (image_of S x)) e (image_of-step K S o world closed new)

pub tail_replayed : (K h : ℕ) (S tail : List Operation) → IsWorld K (tail_set S tail) → IsClosed S → IsTail h S tail →
    image_after_all tail (image_of S h) ≡ image_of (tail_set S tail) h
tail_replayed K h S [] world closed tailed = refl
tail_replayed K h S (o ∷ tail) world closed tailed =
    ap (image_after_all tail) (sym (step_in_heap K h S o (world_base K (o ∷ S) tail world) closed tailed.0 tailed.1))
    ∙ tail_replayed K h (o ∷ S) tail world (closed_step K h S tail o world closed tailed.0) tailed.2

-- ---- a tail is told by the image of the set below it

-- an operation is new to a set where its vector says so
pub taken_is_new : (K h : ℕ) (S : List Operation) (o : Operation) → IsWorld K (o ∷ S) → IsClosed S → o.heap ≡ h → taken_of (vector_of S h) o ≡ New → IsNew S o
taken_is_new K h S o world closed e taken =
    taking_new K S o (vector_of S h) world closed (subst (IsVector (vector_of S h) S) (sym e) (vector_is K S h (world_rest K S o world))) taken

pub new_is_taken : (h : ℕ) (S : List Operation) (o : Operation) → o.site < SITES → o.heap ≡ h → IsNew S o → taken_of (vector_of S h) o ≡ New
new_is_taken h S o below e new = taken_from (vector_of S h) o
    (let is : get_or (vector_of S h) o.site 0 ≡ last S h o.site = by_site-at (last S h) o.site 0 below in
    let fresh : last S h o.site < o.n = subst (λ x. last S x o.site < o.n) e new.fresh in has_not_from (vector_of S h) o.site o.n (omega arith))
    (covers_from (vector_of S h) o.seen (λ t inside.
    let is : get_or (vector_of S h) t 0 ≡ last S h t = by_site-at (last S h) t 0 inside in
    let covered : get_or o.seen t 0 ≤ last S h t = subst (λ x. get_or o.seen t 0 ≤ last S x t) e (new.covered t) in omega arith))

pub tail_is_new : (K h : ℕ) (S tail : List Operation) → IsWorld K (tail_set S tail) → IsClosed S → IsTail h S tail → AreNew tail (image_of S h)
tail_is_new K h S [] world closed tailed = tt {0}
tail_is_new K h S (o ∷ tail) world closed tailed =
    let inner : IsWorld K (o ∷ S) = world_base K (o ∷ S) tail world in (
      new_is_taken h S o (inner.each o (inl refl)).site tailed.1 tailed.0,
      subst (AreNew tail) (step_in_heap K h S o inner closed tailed.0 tailed.1)
          (tail_is_new K h (o ∷ S) tail world (closed_step K h S tail o world closed tailed.0) tailed.2),
    )

pub new_is_tail : (K h : ℕ) (S tail : List Operation) → IsWorld K (tail_set S tail) → IsClosed S → ((o : Operation) → IsIn o tail → o.heap ≡ h) →
    AreNew tail (image_of S h) → IsTail h S tail
new_is_tail K h S [] world closed inside news = tt {0}
new_is_tail K h S (o ∷ tail) world closed inside news =
    let inner : IsWorld K (o ∷ S) = world_base K (o ∷ S) tail world in
    let e : o.heap ≡ h = inside o (inl refl) in
    let new : IsNew S o = taken_is_new K h S o inner closed e news.0 in (
      new,
      e,
      new_is_tail K h (o ∷ S) tail world (closed_step K h S tail o world closed new) (λ p i. inside p (inr i))
          (subst (AreNew tail) (sym (step_in_heap K h S o inner closed new e)) news.1),
    )

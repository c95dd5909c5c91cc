-- What a set of operations means, read off the set: which Puts are live, what each is worth, a
-- member's score, a key's queue.

use Rattle.std.specs.Cmp.Lexicographic.{pointwise, slice_cmp}
use Rattle.std.specs.Ordering.{then_cmp, int_eq, on, int_cmp, nat_cmp}
use Rattle.std.specs.List.{list_any}
use Rattle.std.specs.Prelude.{Bool, List, [], false, if◌then◌else◌, length, nat_eq, pos, slice_index, true, ℕ, ℤ, ◌&&◌, ◌+ℤ◌, ◌<◌, ◌==◌, ◌↔◌, ◌∷◌, ◌≡◌, ◌≤◌}
use Rattle.std.specs.declared.cmp.Ordering.{Ordering}
use Rattle.std.specs.declared.cmp.Ordering.TheVariants.{Less}
use Rattle.zq_model.specs.Heaps.{heap_of}
use Rattle.zq_model.specs.Operation.{Act, Bump, Drop, Operation, Put, has, increment_of, is_put, is_removal, score_put}
use Rattle.zq_model.specs.Rule.{IsNoWorse, Rule}
use Rattle.zq_model.specs.Sets.{HasDot, IsIn, SITES}

-- the operation is on the member m of the key k
abbrev pub is_of : List ℕ → List ℕ → Operation → Bool
is_of k m o = pointwise nat_eq o.key k && pointwise nat_eq o.member m

-- o has seen p: they lie in one heap, and p's dot is in what o's site had seen
abbrev pub has_seen : Operation → Operation → Bool
has_seen o p = (o.heap == p.heap) && has o.seen p.site p.n

-- p is a Put of the set on the member m of the key k, and no Put or Drop of the set on it has seen
-- p
pub record IsLive (S : List Operation) (k m : List ℕ) (p : Operation) : Type 0 where
  pub here : IsIn p S
  pub on : is_of k m p ≡ true
  pub put : is_put p.act ≡ true
  pub kept : (o : Operation) → IsIn o S → is_of k m o ≡ true → is_removal o.act ≡ true →
      has_seen o p ≡ false

abbrev pub is_same_act : Act → Act → Bool
is_same_act (Put x) (Put y) = int_eq x y
is_same_act (Bump x) (Bump y) = int_eq x y
is_same_act Drop Drop = true
is_same_act a b = false

abbrev pub is_same : Operation → Operation → Bool
is_same o p =
    (o.heap == p.heap) &&
    ((o.site == p.site) &&
    ((o.n == p.n) && (pointwise nat_eq o.seen p.seen &&
    (is_of p.key p.member o && is_same_act o.act p.act))))

-- the set without repeats
abbrev pub each_once : List Operation → List Operation
each_once [] = []
each_once (o ∷ S) = if list_any (is_same o) S then each_once S else o ∷ each_once S

-- f of each operation, added up
abbrev pub sum_over : (Operation → ℤ) → List Operation → ℤ
sum_over f [] = pos 0
sum_over f (o ∷ S) = f o +ℤ sum_over f S

-- what o adds to the Put p: its increment, where it is a Bump on p's key and member that has seen p
abbrev pub added_by : Operation → Operation → ℤ
added_by p o = if is_of p.key p.member o && has_seen o p then increment_of o.act else pos 0

-- a Put's score and the increments of all Bumps of the set on its key and member that have seen it
abbrev pub value_of_put : List Operation → Operation → ℤ
value_of_put S p = score_put p.act +ℤ sum_over (added_by p) (each_once S)

-- x is the value of a live Put, and no live Put has a better one
pub record IsScore (rule : Rule) (S : List Operation) (k m : List ℕ) (x : ℤ) : Type 0 where
  pub reached : (p : Operation) × IsLive S k m p × (value_of_put S p ≡ x)
  pub best : (p : Operation) → IsLive S k m p → IsNoWorse rule x (value_of_put S p)

-- a member with its score
abbrev pub Scored : Type 0
Scored = ℤ × List ℕ

-- by score, and then by the member's bytes
abbrev pub scored_cmp : Scored → Scored → Ordering
scored_cmp = then_cmp (on (λ x. x.0) int_cmp) (on (λ x. x.1) (slice_cmp nat_cmp))

-- each is below all that follow it
abbrev pub IsRising : List Scored → Type 0
IsRising [] = Unit {0}
IsRising (x ∷ q) = ((y : Scored) → IsIn y q → scored_cmp x y ≡ Less) × IsRising q

-- q is the key's queue over the heaps named, of K: it has each member of these heaps that has a
-- score, with that score, in order
pub record IsQueue (rule : Rule) (K : ℕ) (S : List Operation) (key : List ℕ) (heaps : List ℕ)
    (q : List Scored) : Type 0 where
  pub rising : IsRising q
  pub members : (x : ℤ) (m : List ℕ) → IsIn (x, m) q
      ↔ (IsIn (heap_of key m K) heaps × IsScore rule S key m x)

-- q is the key's queue over all heaps
pub record IsWholeQueue (rule : Rule) (S : List Operation) (key : List ℕ) (q : List Scored) : Type 0
  where
    pub rising : IsRising q
    pub members : (x : ℤ) (m : List ℕ) → IsIn (x, m) q ↔ IsScore rule S key m x

-- v has, for each site, the greatest counter of its operations in the heap, and 0 where there is
-- none
pub record IsVectorOf (S : List Operation) (heap : ℕ) (v : List ℕ) : Type 0 where
  pub wide : length v ≡ SITES
  pub above : (o : Operation) → IsIn o S → o.heap ≡ heap → o.n ≤ slice_index v o.site
  pub reached : (t : ℕ) → 0 < slice_index v t → HasDot S heap t (slice_index v t)

-- the increments of the site t's Bumps on p's key and member that have seen the Put p
abbrev pub site_value_of_put : List Operation → Operation → ℕ → ℤ
site_value_of_put S p t = sum_over (λ o. if o.site == t then added_by p o else pos 0) (each_once S)

-- What a set makes of one member: its live additions, their sums, and the join of two such.

use Rattle.std.specs.List.{list_any}
use Rattle.std.specs.Prelude.{Bool, List, None, Option, Some, find, if◌then◌else◌, nat_lt, not, pos, slice_index, slice_index_or, suc, zero, ℕ, ℤ, ◌&&◌, ◌+ℤ◌, ◌==◌}
use Rattle.zq_model.specs.Operation.{Act, Bump, Drop, Operation, Put, has, increment_of, is_on, is_put, is_removal, score_put}
use Rattle.zq_model.specs.Sets.{at, by_site, last}

-- a live Put: its counter, its score, and for each site the sum of the Bumps that have seen it
pub record Addition : Type 0 where
  pub n : ℕ
  pub score : ℤ
  pub sums : List ℤ

-- the operation takes the Put with the dot (s, n) on this member away
abbrev pub removes : ℕ → List ℕ → List ℕ → ℕ → ℕ → Operation → Bool
removes h k m s n o = is_on h k m o && (is_removal o.act && has o.seen s n)

abbrev pub is_dead : List Operation → ℕ → List ℕ → List ℕ → ℕ → ℕ → Bool
is_dead S h k m s n = list_any (removes h k m s n) S

abbrev pub is_put_of : ℕ → List ℕ → List ℕ → ℕ → Operation → Bool
is_put_of h k m s o = is_on h k m o && ((o.site == s) && is_put o.act)

-- the live Put of a site on this member
abbrev pub live : List Operation → ℕ → List ℕ → List ℕ → ℕ → Option Operation
live S h k m s = find (λ o. is_put_of h k m s o && not (is_dead S h k m s o.n)) S

-- what an operation adds to the Put with the dot (s, n) on this member
abbrev pub amount : ℕ → List ℕ → List ℕ → ℕ → ℕ → Option Operation → ℤ
amount h k m s n None = pos 0
amount h k m s n (Some o) = if is_on h k m o && has o.seen s n then increment_of o.act else pos 0

-- f 1 + .. + f n
abbrev pub sum_upto : (ℕ → ℤ) → ℕ → ℤ
sum_upto f zero = pos 0
sum_upto f (suc n) = sum_upto f n +ℤ f (suc n)

-- the sum of the increments of the site t's Bumps on this member that have seen the Put with the
-- dot (s, n)
abbrev pub site_sum : List Operation → ℕ → List ℕ → List ℕ → ℕ → ℕ → ℕ → ℤ
site_sum S h k m s n t = sum_upto (λ i. amount h k m s n (at S h t i)) (last S h t)

abbrev pub addition : List Operation → ℕ → List ℕ → List ℕ → ℕ → Option Operation → Option Addition
addition S h k m s None = None
addition S h k m s (Some o) =
    Some (record { n = o.n; score = score_put o.act; sums = by_site (site_sum S h k m s o.n) })

-- the live addition of a site on this member
abbrev pub addition_of : List Operation → ℕ → List ℕ → List ℕ → ℕ → Option Addition
addition_of S h k m s = addition S h k m s (live S h k m s)

abbrev pub sum_at : Addition → ℕ → ℤ
sum_at a t = slice_index_or a.sums t (pos 0)

-- each site's sum from the side that knows more of the site
abbrev pub sums_joined : List ℕ → List ℕ → List ℤ → List ℤ → List ℤ
sums_joined u v a b =
    by_site (λ t. if nat_lt (slice_index u t) (slice_index v t) then slice_index_or b t
    (pos 0) else slice_index_or a t (pos 0))

-- an addition that both sides have
abbrev pub joined : List ℕ → List ℕ → Addition → Addition → Addition
joined u v a b = record { n = a.n; score = a.score; sums = sums_joined u v a.sums b.sums }

-- one that only one side has stands where its dot is outside the other's vector
abbrev pub unless_known : List ℕ → ℕ → Addition → Option Addition
unless_known v s a = if has v s a.n then None else Some a

abbrev pub or_else : Option Addition → Option Addition → Option Addition
or_else None y = y
or_else (Some a) y = Some a

-- the join of what two sides have of a site
abbrev pub join_site : List ℕ → List ℕ → ℕ → Option Addition → Option Addition → Option Addition
join_site u v s None None = None
join_site u v s (Some a) None = unless_known v s a
join_site u v s None (Some b) = unless_known u s b
join_site u v s (Some a) (Some b) =
    if a.n == b.n then Some (joined u v a b) else or_else (unless_known v s a) (unless_known u s b)

-- what is left after an act that has seen this vector
abbrev pub without : List ℕ → ℕ → Option Addition → Option Addition
without seen s None = None
without seen s (Some a) = unless_known seen s a

-- the addition after the site t's Bump by i that has seen this vector
abbrev pub bumped : List ℕ → ℕ → ℕ → ℤ → Addition → Addition
bumped seen s t i a =
    if has seen s a.n then
    record { n = a.n; score = a.score; sums = by_site (λ r. if r == t then sum_at a r +ℤ i else sum_at a r) } else a

abbrev pub bumped_if : List ℕ → ℕ → ℕ → ℤ → Option Addition → Option Addition
bumped_if seen s t i None = None
bumped_if seen s t i (Some a) = Some (bumped seen s t i a)

-- what an act with the dot (t, n) that has seen this vector makes of what its member has of the
-- site s
abbrev pub after_act : Act → ℕ → ℕ → List ℕ → ℕ → Option Addition → Option Addition
after_act (Put score) t n seen s x =
    if t == s then Some (record { n = n; score = score; sums = by_site (λ _. pos 0) }) else without
    seen s x
after_act (Bump increment) t n seen s x = bumped_if seen s t increment x
after_act Drop t n seen s x = without seen s x

abbrev pub after : Operation → ℕ → Option Addition → Option Addition
after o s x = after_act o.act o.site o.n o.seen s x

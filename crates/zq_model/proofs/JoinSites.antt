-- What two closed sets of one world have of a site's live Put on a member joins to what their union has.

use Rattle.std.proofs.Common.{List, None, Option, Some, T, ap, arith, eq-eqb, false, get_or, if◌then◌else◌, inl, inr, le-ltb, lt-ltb, max, ne_eqb, pos, refl, subst, sym, true≢false, ℕ, ⊎_elim, ◌++◌, ◌<◌, ◌==◌, ◌∙◌, ◌≡◌, ◌≤◌, ◌⊎◌}
use Rattle.std.proofs.lemmas.Bool.{cases_lt, cases_order, cond-false, cond-true, false_from_ne_true, or_from, or_parts}
use Rattle.zq_model.proofs.Dots.{counter_positive, dots_below, has_from, has_not_from, last-union, last_above, seen_last}
use Rattle.zq_model.proofs.Membership.{in_left, in_right, in_turned, in_union}
use Rattle.zq_model.proofs.Same.{addition_of-same, addition_with}
use Rattle.zq_model.proofs.Sites.{by_site-at, by_site-same, by_site_from, length-by_site}
use Rattle.zq_model.proofs.Standing.{IsStanding, addition_is, addition_none, is_dead-union, live_none, live_some, not_dead_above, put_removes_earlier, standing_heap, standing_one, standing_site}
use Rattle.zq_model.proofs.Sums.{site_sum_above, site_sum_unseen, site_sum_within}
use Rattle.zq_model.proofs.Worlds.{world_left, world_right, world_swapped}
use Rattle.zq_model.specs.Entry.{Addition, addition, addition_of, is_dead, join_site, live, or_else, site_sum, sums_joined}
use Rattle.zq_model.specs.Operation.{Operation, has}
use Rattle.zq_model.specs.Sets.{HasDot, IsClosed, IsIn, IsWorld, SITES, by_site, last, vector_of}

-- an operation of the one set that the other's vector has is in the other
pub known_in : (K : ℕ) (S T : List Operation) (h s : ℕ) (o : Operation) → IsWorld K (S ++ T) → IsClosed T → IsIn o S → o.heap ≡ h → o.site ≡ s →
    o.n ≤ last T h s → IsIn o T
known_in K S T h s o world closed i a b below =
    let low : 0 < o.n = counter_positive K (S ++ T) o world (in_left o S T i) in
    let dot : HasDot T h s o.n = dots_below K T h s o.n (world_right K S T world) closed low below in
    let same : dot.0 ≡ o = world.one dot.0 o (in_right dot.0 S T dot.1) (in_left o S T i) (dot.2 ∙ sym a) (dot.3 ∙ sym b) dot.4 in
    subst (λ x. IsIn x T) same dot.1

standing_kept : (S T : List Operation) (h : ℕ) (k m : List ℕ) (s : ℕ) (o : Operation) → IsStanding (S ++ T) h k m s o →
    (is_dead S h k m s o.n ≡ false) × (is_dead T h k m s o.n ≡ false)
standing_kept S T h k m s o a = or_parts _ _ (sym (is_dead-union S T h k m s o.n) ∙ a.kept)

standing_left : (S T : List Operation) (h : ℕ) (k m : List ℕ) (s : ℕ) (o : Operation) → IsStanding (S ++ T) h k m s o → IsIn o S → IsStanding S h k m s o
standing_left S T h k m s o a i = record { here = i; put = a.put; kept = (standing_kept S T h k m s o a).0 }

standing_right : (S T : List Operation) (h : ℕ) (k m : List ℕ) (s : ℕ) (o : Operation) → IsStanding (S ++ T) h k m s o → IsIn o T → IsStanding T h k m s o
standing_right S T h k m s o a i = record { here = i; put = a.put; kept = (standing_kept S T h k m s o a).1 }

standing_union : (S T : List Operation) (h : ℕ) (k m : List ℕ) (s : ℕ) (o : Operation) → IsStanding S h k m s o → is_dead T h k m s o.n ≡ false →
    IsStanding (S ++ T) h k m s o
standing_union S T h k m s o a kept = record {
  here = in_left o S T a.here;
  put = a.put;
  kept = is_dead-union S T h k m s o.n ∙ or_from _ _ a.kept kept;
}

-- ---- sums

-- the union has a site's sum of the set that has no less of the site
sum_left : (K : ℕ) (S T : List Operation) (h : ℕ) (k m : List ℕ) (s n t : ℕ) → IsWorld K (S ++ T) → IsClosed S → last T h t ≤ last S h t →
    site_sum (S ++ T) h k m s n t ≡ site_sum S h k m s n t
sum_left K S T h k m s n t world closed most =
    let all : last (S ++ T) h t ≡ max (last S h t) (last T h t) = last-union S T h t in
    site_sum_within K S (S ++ T) h k m s n t (world_left K S T world) world closed (λ o i _. in_left o S T i) (omega arith)

sum_right : (K : ℕ) (S T : List Operation) (h : ℕ) (k m : List ℕ) (s n t : ℕ) → IsWorld K (S ++ T) → IsClosed T → last S h t ≤ last T h t →
    site_sum (S ++ T) h k m s n t ≡ site_sum T h k m s n t
sum_right K S T h k m s n t world closed most =
    let all : last (S ++ T) h t ≡ max (last S h t) (last T h t) = last-union S T h t in
    site_sum_within K T (S ++ T) h k m s n t (world_right K S T world) world closed (λ o i _. in_right o S T i) (omega arith)

-- what the union's first set has of a site, where the second has more of it, has not seen what the second does not know
unseen_alone : (K : ℕ) (S T : List Operation) (h s n t : ℕ) → IsWorld K (S ++ T) → IsClosed T → last S h t ≤ last T h t → last T h s < n →
    (o : Operation) → IsIn o S → o.heap ≡ h → o.site ≡ t → has o.seen s n ≡ false
unseen_alone K S T h s n t world closed less above o i a b = false_from_ne_true _ (λ known.
    let inside : o.n ≤ last S h t = last_above S h t o i a b in
    let there : IsIn o T = known_in K S T h t o world closed i a b (omega arith) in
    let most : n ≤ last T h s = seen_last T o h s n closed there a known in absurd (omega arith))

-- to a Put that the second set does not know the union adds what the first does
sum_alone : (K : ℕ) (S T : List Operation) (h : ℕ) (k m : List ℕ) (s n t : ℕ) → IsWorld K (S ++ T) → IsClosed S → IsClosed T → last T h s < n →
    site_sum (S ++ T) h k m s n t ≡ site_sum S h k m s n t
sum_alone K S T h k m s n t world first second above =
    elim (cases_lt (last S h t) (last T h t)) [
      | inl less ↦
          let fewer : last S h t ≤ last T h t = omega arith in
          sum_right K S T h k m s n t world second fewer
          ∙ site_sum_above T h k m s n t second above
          ∙ sym (site_sum_unseen S h k m s n t (unseen_alone K S T h s n t world second fewer above))
      | inr most ↦ sum_left K S T h k m s n t world first most
    ]

-- ---- additions

-- the second set does not know the Put
alone : (K : ℕ) (S T : List Operation) (h : ℕ) (k m : List ℕ) (s : ℕ) (o : Operation) → IsWorld K (S ++ T) → IsClosed S → IsClosed T →
    IsStanding S h k m s o → last T h s < o.n → addition S h k m s (Some o) ≡ addition_of (S ++ T) h k m s
alone K S T h k m s o world first second a above =
    ap (addition_with o) (by_site-same _ _ (λ t _. sym (sum_alone K S T h k m s o.n t world first second above)))
    ∙ sym (addition_is K (S ++ T) h k m s o world (standing_union S T h k m s o a (not_dead_above T h k m s o.n second above)))

-- the order of the two sets says nothing
turned : (K : ℕ) (S T : List Operation) (h : ℕ) (k m : List ℕ) (s : ℕ) → IsWorld K (S ++ T) → addition_of (T ++ S) h k m s ≡ addition_of (S ++ T) h k m s
turned K S T h k m s world = addition_of-same K (T ++ S) (S ++ T) h k m s (world_swapped K S T world) world
    (λ o i _. in_turned o T S i) (λ o i _. in_turned o S T i)

-- an addition that stands unless the vector has its dot
abbrev kept_unless : List ℕ → ℕ → ℕ → Option Addition → Option Addition
kept_unless v s n x = if has v s n then None else x

module _ (K : ℕ) (S T : List Operation) (h : ℕ) (k m : List ℕ) (s : ℕ) (below : s < SITES) (world : IsWorld K (S ++ T)) (first : IsClosed S) (second : IsClosed T) where
  -- to a Put of both sets a site adds what it does in the set that has more of the site
  sum_both : (n t : ℕ) → t < SITES →
      get_or (sums_joined (vector_of S h) (vector_of T h) (by_site (site_sum S h k m s n)) (by_site (site_sum T h k m s n))) t (pos 0) ≡ site_sum (S ++ T) h k m s n t
  sum_both n t inside =
      let u : get_or (vector_of S h) t 0 ≡ last S h t = by_site-at (last S h) t 0 inside in
      let v : get_or (vector_of T h) t 0 ≡ last T h t = by_site-at (last T h) t 0 inside in
      let mine : get_or (by_site (site_sum S h k m s n)) t (pos 0) ≡ site_sum S h k m s n t = by_site-at (site_sum S h k m s n) t (pos 0) inside in
      let theirs : get_or (by_site (site_sum T h k m s n)) t (pos 0) ≡ site_sum T h k m s n t = by_site-at (site_sum T h k m s n) t (pos 0) inside in
      by_site-at _ t (pos 0) inside ∙ (elim (cases_lt (get_or (vector_of S h) t 0) (get_or (vector_of T h) t 0)) [
        | inl less ↦ cond-true _ _ _ (lt-ltb _ _ less) ∙ theirs ∙ sym (sum_right K S T h k m s n t world second (omega arith))
        | inr most ↦ cond-false _ _ _ (le-ltb _ _ most) ∙ mine ∙ sym (sum_left K S T h k m s n t world first (omega arith))
      ])

  -- both sets have the Put
  both : (o : Operation) → IsStanding S h k m s o → IsStanding T h k m s o →
      addition_with o (sums_joined (vector_of S h) (vector_of T h) (by_site (site_sum S h k m s o.n)) (by_site (site_sum T h k m s o.n))) ≡ addition_of (S ++ T) h k m s
  both o a b =
      ap (addition_with o) (by_site_from (site_sum (S ++ T) h k m s o.n) _ (pos 0) (length-by_site _) (sum_both o.n))
      ∙ sym (addition_is K (S ++ T) h k m s o world (standing_union S T h k m s o a b.kept))

  -- a Put of the first set that the second knows, and has none in its place, is dead
  known_dead : (o : Operation) → IsStanding S h k m s o → live T h k m s ≡ None → IsIn o T → (p : Operation) → IsStanding (S ++ T) h k m s p → ⊥
  known_dead o a none there p b =
      elim (in_union p S T b.here) [
        | inl i ↦
            let same : o ≡ p = standing_one K S h k m s o p (world_left K S T world) a (standing_left S T h k m s p b i) in
            live_none T h k m s p none (standing_right S T h k m s p b (subst (λ x. IsIn x T) same there))
        | inr i ↦ live_none T h k m s p none (standing_right S T h k m s p b i)
      ]

  -- the first set alone has the Put
  only_first : (o : Operation) → IsStanding S h k m s o → live T h k m s ≡ None →
      kept_unless (vector_of T h) s o.n (addition S h k m s (Some o)) ≡ addition_of (S ++ T) h k m s
  only_first o a none =
      let v : get_or (vector_of T h) s 0 ≡ last T h s = by_site-at (last T h) s 0 below in
      let low : 0 < o.n = counter_positive K (S ++ T) o world (in_left o S T a.here) in
      elim (cases_lt (last T h s) o.n) [
        | inl above ↦ cond-false _ _ _ (has_not_from (vector_of T h) s o.n (omega arith)) ∙ alone K S T h k m s o world first second a above
        | inr inside ↦
            let there : IsIn o T = known_in K S T h s o world second a.here (standing_heap a) (standing_site a) inside in
            cond-true _ _ _ (has_from (vector_of T h) s o.n low (omega arith)) ∙ sym (addition_none (S ++ T) h k m s (known_dead o a none there))
      ]

-- the later of two Puts of a site is not known to the set in which the earlier one is live
later_unknown : (K : ℕ) (S T : List Operation) (h : ℕ) (k m : List ℕ) (s : ℕ) (o p : Operation) → IsWorld K (S ++ T) → IsClosed T →
    IsStanding S h k m s o → IsStanding T h k m s p → p.n < o.n → last T h s < o.n
later_unknown K S T h k m s o p world closed a b less =
    elim (cases_lt (last T h s) o.n) [
      | inl above ↦ above
      | inr inside ↦
          let there : IsIn o T = known_in K S T h s o world closed a.here (standing_heap a) (standing_site a) inside in
          let low : 0 < p.n = counter_positive K (S ++ T) p world (in_right p S T b.here) in
          absurd (true≢false (sym (put_removes_earlier K T h k m s p o (world_right K S T world) there a.put low less) ∙ b.kept))
    ]

or_else-none : (x : Option Addition) → or_else x None ≡ x
or_else-none None = refl
or_else-none (Some a) = refl

module _ (K : ℕ) (S T : List Operation) (h : ℕ) (k m : List ℕ) (s : ℕ) (below : s < SITES) (world : IsWorld K (S ++ T)) (first : IsClosed S) (second : IsClosed T) where
  -- of two Puts the later stands, and the earlier is known to the set of the later
  later_stands : (o p : Operation) → IsStanding S h k m s o → IsStanding T h k m s p → p.n < o.n →
      kept_unless (vector_of T h) s o.n (addition S h k m s (Some o)) ≡ addition_of (S ++ T) h k m s
  later_stands o p a b less =
      let v : get_or (vector_of T h) s 0 ≡ last T h s = by_site-at (last T h) s 0 below in
      let above : last T h s < o.n = later_unknown K S T h k m s o p world second a b less in
      cond-false _ _ _ (has_not_from (vector_of T h) s o.n (omega arith)) ∙ alone K S T h k m s o world first second a above

  earlier_gone : (o p : Operation) (x : Option Addition) → IsStanding S h k m s o → IsStanding T h k m s p → p.n < o.n → kept_unless (vector_of S h) s p.n x ≡ None
  earlier_gone o p x a b less =
      let u : get_or (vector_of S h) s 0 ≡ last S h s = by_site-at (last S h) s 0 below in
      let inside : o.n ≤ last S h s = last_above S h s o a.here (standing_heap a) (standing_site a) in
      cond-true _ _ _ (has_from (vector_of S h) s p.n (counter_positive K (S ++ T) p world (in_right p S T b.here)) (omega arith))

module _ (K : ℕ) (S T : List Operation) (h : ℕ) (k m : List ℕ) (s : ℕ) (below : s < SITES) (world : IsWorld K (S ++ T)) (first : IsClosed S) (second : IsClosed T) where
  -- the sets have the same Put
  same_put : (o p : Operation) → IsStanding S h k m s o → IsStanding T h k m s p → o.n ≡ p.n →
      addition_with o (sums_joined (vector_of S h) (vector_of T h) (by_site (site_sum S h k m s o.n)) (by_site (site_sum T h k m s p.n))) ≡ addition_of (S ++ T) h k m s
  same_put o p a b e =
      let same : o ≡ p = world.one o p (in_left o S T a.here) (in_right p S T b.here) (standing_heap a ∙ sym (standing_heap b)) (standing_site a ∙ sym (standing_site b)) e in
      ap (λ n. addition_with o (sums_joined (vector_of S h) (vector_of T h) (by_site (site_sum S h k m s o.n)) (by_site (site_sum T h k m s n)))) (sym e)
      ∙ both K S T h k m s below world first second o a (subst (IsStanding T h k m s) (sym same) b)

  -- each set has a Put of its own
  two_puts : (o p : Operation) → IsStanding S h k m s o → IsStanding T h k m s p → (o.n < p.n) ⊎ (p.n < o.n) →
      or_else (kept_unless (vector_of T h) s o.n (addition S h k m s (Some o))) (kept_unless (vector_of S h) s p.n (addition T h k m s (Some p))) ≡ addition_of (S ++ T) h k m s
  two_puts o p a b (inl less) =
      let swapped : IsWorld K (T ++ S) = world_swapped K S T world in
      ap (λ x. or_else x (kept_unless (vector_of S h) s p.n (addition T h k m s (Some p)))) (earlier_gone K T S h k m s below swapped second first p o _ b a less)
      ∙ later_stands K T S h k m s below swapped second first p o b a less
      ∙ turned K S T h k m s world
  two_puts o p a b (inr more) =
      ap (or_else (kept_unless (vector_of T h) s o.n (addition S h k m s (Some o)))) (earlier_gone K S T h k m s below world first second o p _ a b more)
      ∙ or_else-none _
      ∙ later_stands K S T h k m s below world first second o p a b more

  puts_joined : (o p : Operation) → IsStanding S h k m s o → IsStanding T h k m s p →
      join_site (vector_of S h) (vector_of T h) s (addition S h k m s (Some o)) (addition T h k m s (Some p)) ≡ addition_of (S ++ T) h k m s
  puts_joined o p a b =
      elim (cases_order o.n p.n) [
        | inl same ↦ cond-true (o.n == p.n) _ _ (eq-eqb o.n p.n same) ∙ same_put o p a b same
        | inr apart ↦ cond-false (o.n == p.n) _ _ (ne_eqb o.n p.n (omega arith)) ∙ two_puts o p a b apart
      ]

-- the join of what two closed sets of one world have of a site is what their union has
pub join_site-union : (K : ℕ) (S T : List Operation) (h : ℕ) (k m : List ℕ) (s : ℕ) → s < SITES → IsWorld K (S ++ T) → IsClosed S → IsClosed T →
    join_site (vector_of S h) (vector_of T h) s (addition_of S h k m s) (addition_of T h k m s) ≡ addition_of (S ++ T) h k m s
join_site-union K S T h k m s below world first second =
    let u = vector_of S h in
    let v = vector_of T h in
    let swapped : IsWorld K (T ++ S) = world_swapped K S T world in
    elim (live S h k m s) as (λ x. live S h k m s ≡ x → join_site u v s (addition S h k m s x) (addition_of T h k m s) ≡ addition_of (S ++ T) h k m s) [
      | None ↦ λ d. elim (live T h k m s) as (λ y. live T h k m s ≡ y → join_site u v s None (addition T h k m s y) ≡ addition_of (S ++ T) h k m s) [
        | None ↦ λ e. sym (addition_none (S ++ T) h k m s (λ o a. ⊎_elim
            (λ i. live_none S h k m s o d (standing_left S T h k m s o a i))
            (λ i. live_none T h k m s o e (standing_right S T h k m s o a i))
            (in_union o S T a.here)))
        | Some p ↦ λ e. only_first K T S h k m s below swapped second first p (live_some T h k m s p e) d ∙ turned K S T h k m s world
      ] refl
      | Some o ↦ λ d. elim (live T h k m s) as (λ y. live T h k m s ≡ y → join_site u v s (addition S h k m s (Some o)) (addition T h k m s y) ≡ addition_of (S ++ T) h k m s) [
        | None ↦ λ e. only_first K S T h k m s below world first second o (live_some S h k m s o d) e
        | Some p ↦ λ e. puts_joined K S T h k m s below world first second o p (live_some S h k m s o d) (live_some T h k m s p e)
      ] refl
    ] refl

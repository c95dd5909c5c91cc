-- What a new operation makes of what its member, and another, has of a site.

use Rattle.std.proofs.Common.{List, None, Some, ap, arith, eq-eqb, eqb-true, false, get_or, if◌then◌else◌, inl, inr, ne_eqb, pos, refl, subst, sym, true, true≢false, ℕ, ℤ, ⊎_elim, ◌+ℤ◌, ◌<◌, ◌==◌, ◌∙◌, ◌∷◌, ◌≡◌, ◌≤◌}
use Rattle.std.proofs.lemmas.Bool.{and_from, and_left, and_right, cases_eq, cond-false, cond-true, cond_both, false_from_ne_true, or_from, or_parts}
use Rattle.std.specs.Ordering.{on}
use Rattle.zq_model.proofs.Dots.{seen_last}
use Rattle.zq_model.proofs.NewOperation.{own_dot_unseen, sum_elsewhere, sum_here, sum_stays, world_rest}
use Rattle.zq_model.proofs.Places.{is_put_of_from}
use Rattle.zq_model.proofs.Same.{addition_with}
use Rattle.zq_model.proofs.Sites.{by_site-at, by_site-same}
use Rattle.zq_model.proofs.Standing.{IsStanding, addition_is, addition_none, live_none, live_some, not_dead_above, standing_one}
use Rattle.zq_model.proofs.Sums.{amount_elsewhere, amount_unseen, site_sum_unseen}
use Rattle.zq_model.specs.Entry.{addition, addition_of, after, after_act, amount, bumped_if, is_dead, is_put_of, live, removes, site_sum, without}
use Rattle.zq_model.specs.Operation.{Bump, Drop, Operation, Put, has, increment_of, is_on, is_put, is_removal, score_put}
use Rattle.zq_model.specs.Sets.{IsClosed, IsIn, IsNew, IsWorld, SITES, by_site, last}

module _ (K : ℕ) (S : List Operation) (o : Operation) (world : IsWorld K (o ∷ S)) (closed : IsClosed S) (new : IsNew S o) (k m : List ℕ) (s : ℕ) where
  -- it is not a Put of this site on this member: then the live Put is the one before, where it is not taken away
  standing_before : is_put_of o.heap k m s o ≡ false → (p : Operation) → IsStanding (o ∷ S) o.heap k m s p →
      IsStanding S o.heap k m s p × (removes o.heap k m s p.n o ≡ false)
  standing_before other p a =
      let kept : (removes o.heap k m s p.n o ≡ false) × (is_dead S o.heap k m s p.n ≡ false) = or_parts _ _ a.kept in
      let there : IsIn p S = ⊎_elim (λ same. absurd (true≢false (sym (subst (λ x. is_put_of o.heap k m s x ≡ true) (sym same) a.put) ∙ other))) (λ i. i) a.here in
      (record { here = there; put = a.put; kept = kept.1 }, kept.0)

  none_before : is_put_of o.heap k m s o ≡ false → live S o.heap k m s ≡ None → addition_of (o ∷ S) o.heap k m s ≡ None
  none_before other e = addition_none (o ∷ S) o.heap k m s (λ p a. live_none S o.heap k m s p e (standing_before other p a).0)

  removed : is_put_of o.heap k m s o ≡ false → (p : Operation) → live S o.heap k m s ≡ Some p → removes o.heap k m s p.n o ≡ true →
      addition_of (o ∷ S) o.heap k m s ≡ None
  removed other p e gone = addition_none (o ∷ S) o.heap k m s (λ r a.
      let before : IsStanding S o.heap k m s r × (removes o.heap k m s r.n o ≡ false) = standing_before other r a in
      let same : p ≡ r = standing_one K S o.heap k m s p r (world_rest K S o world) (live_some S o.heap k m s p e) before.0 in
      true≢false (sym gone ∙ subst (λ x. removes o.heap k m s x.n o ≡ false) (sym same) before.1))

  unremoved : (p : Operation) → live S o.heap k m s ≡ Some p → removes o.heap k m s p.n o ≡ false →
      addition_of (o ∷ S) o.heap k m s ≡ addition (o ∷ S) o.heap k m s (Some p)
  unremoved p e stays =
      let a : IsStanding S o.heap k m s p = live_some S o.heap k m s p e in
      addition_is K (o ∷ S) o.heap k m s p world (record { here = inr a.here; put = a.put; kept = or_from _ _ stays a.kept })

  -- it is on another member
  pub addition_elsewhere : is_on o.heap k m o ≡ false → addition_of (o ∷ S) o.heap k m s ≡ addition_of S o.heap k m s
  addition_elsewhere away =
      elim (live S o.heap k m s) as (λ r. live S o.heap k m s ≡ r → addition_of (o ∷ S) o.heap k m s ≡ addition S o.heap k m s r) [
        | None ↦ λ e. none_before (and_left _ _ away) e
        | Some p ↦ λ e. unremoved p e (and_left _ _ away)
            ∙ ap (addition_with p) (by_site-same _ _ (λ t _. sum_stays K S o world closed new k m s p.n t (amount_elsewhere o.heap k m s p.n o away)))
      ] refl

  -- it takes away what it has seen, and is no Put of this site
  pub addition_removed : is_on o.heap k m o ≡ true → is_removal o.act ≡ true → increment_of o.act ≡ pos 0 → is_put_of o.heap k m s o ≡ false →
      addition_of (o ∷ S) o.heap k m s ≡ without o.seen s (addition_of S o.heap k m s)
  addition_removed on removal nothing other =
      elim (live S o.heap k m s) as (λ r. live S o.heap k m s ≡ r → addition_of (o ∷ S) o.heap k m s ≡ without o.seen s (addition S o.heap k m s r)) [
        | None ↦ λ e. none_before other e
        | Some p ↦ λ e. cond_both (has o.seen s p.n) _ _ (λ x. addition_of (o ∷ S) o.heap k m s ≡ x)
            (λ known. removed other p e (and_from _ _ on (and_from _ _ removal known)))
            (λ unknown. unremoved p e (and_right _ _ (and_right _ _ unknown))
            ∙ ap (addition_with p) (by_site-same _ _ (λ t _. sum_stays K S o world closed new k m s p.n t (amount_unseen o.heap k m s p.n o unknown))))
      ] refl

  -- the amount that a Bump on this member adds to a Put that it has seen
  amount_bumped : (i : ℤ) (n : ℕ) → is_on o.heap k m o ≡ true → o.act ≡ Bump i → has o.seen s n ≡ true → amount o.heap k m s n (Some o) ≡ i
  amount_bumped i n on is known = cond-true _ _ _ (and_from _ _ on known) ∙ ap increment_of is

  -- after a Bump the Put has its sums with the increment
  bumped_sum : (i : ℤ) (n t : ℕ) → is_on o.heap k m o ≡ true → o.act ≡ Bump i → has o.seen s n ≡ true →
      site_sum (o ∷ S) o.heap k m s n t ≡ (if t == o.site then site_sum S o.heap k m s n t +ℤ i else site_sum S o.heap k m s n t)
  bumped_sum i n t on is known =
      elim (cases_eq t o.site) [
        | inl same ↦
            subst (λ r. site_sum (o ∷ S) o.heap k m s n r ≡ site_sum S o.heap k m s n r +ℤ i) (sym same)
            (sum_here K S o world closed new k m s n ∙ ap (λ x. site_sum S o.heap k m s n o.site +ℤ x) (amount_bumped i n on is known))
            ∙ sym (cond-true (t == o.site) _ _ (eq-eqb t o.site same))
        | inr apart ↦ sum_elsewhere K S o world closed new k m s n t apart ∙ sym (cond-false (t == o.site) _ _ (ne_eqb t o.site apart))
      ]

  bumped_sums : (i : ℤ) → is_on o.heap k m o ≡ true → o.act ≡ Bump i → (p : Operation) →
      addition (o ∷ S) o.heap k m s (Some p) ≡ bumped_if o.seen s o.site i (addition S o.heap k m s (Some p))
  bumped_sums i on is p =
      let before : (t : ℕ) → t < SITES → get_or (by_site (site_sum S o.heap k m s p.n)) t (pos 0) ≡ site_sum S o.heap k m s p.n t =
      λ t below. by_site-at (site_sum S o.heap k m s p.n) t (pos 0) below in
      cond_both (has o.seen s p.n) _ _ (λ x. addition (o ∷ S) o.heap k m s (Some p) ≡ Some x)
      (λ known. ap (addition_with p) (by_site-same _ _ (λ t below.
      bumped_sum i p.n t on is known ∙ ap (λ x. if t == o.site then x +ℤ i else x) (sym (before t below)))))
      (λ unknown. ap (addition_with p) (by_site-same _ _ (λ t _. sum_stays K S o world closed new k m s p.n t (amount_unseen o.heap k m s p.n o unknown))))

  -- it is a Bump
  pub addition_bumped : (i : ℤ) → is_on o.heap k m o ≡ true → o.act ≡ Bump i →
      addition_of (o ∷ S) o.heap k m s ≡ bumped_if o.seen s o.site i (addition_of S o.heap k m s)
  addition_bumped i on is =
      let no_put : is_put o.act ≡ false = ap is_put is in
      let no_removal : is_removal o.act ≡ false = ap is_removal is in
      elim (live S o.heap k m s) as (λ r. live S o.heap k m s ≡ r → addition_of (o ∷ S) o.heap k m s ≡ bumped_if o.seen s o.site i (addition S o.heap k m s r)) [
        | None ↦ λ e. none_before (and_right _ _ (and_right _ _ no_put)) e
        | Some p ↦ λ e. unremoved p e (and_right _ _ (and_left _ _ no_removal)) ∙ bumped_sums i on is p
      ] refl

  -- it is a Put of this site: nothing has seen it
  own_unseen : o.site ≡ s → has o.seen s o.n ≡ false
  own_unseen mine = subst (λ t. has o.seen t o.n ≡ false) mine (own_dot_unseen K (o ∷ S) o world (inl refl))

  put_unseen : o.site ≡ s → (p : Operation) → IsIn p (o ∷ S) → p.heap ≡ o.heap → has p.seen s o.n ≡ false
  put_unseen mine p (inl same) a = subst (λ x. has x.seen s o.n ≡ false) same (own_unseen mine)
  put_unseen mine p (inr there) a = false_from_ne_true _ (λ known.
      let most : o.n ≤ last S o.heap s = seen_last S p o.heap s o.n closed there a known in
      let fresh : last S o.heap s < o.n = subst (λ t. last S o.heap t < o.n) mine new.fresh in absurd (omega arith))

  pub addition_put : (score : ℤ) → is_on o.heap k m o ≡ true → o.site ≡ s → o.act ≡ Put score →
      addition_of (o ∷ S) o.heap k m s ≡ Some (record { n = o.n; score = score; sums = by_site (λ _. pos 0) })
  addition_put score on mine is =
      let fresh : last S o.heap s < o.n = subst (λ t. last S o.heap t < o.n) mine new.fresh in
      let stands : IsStanding (o ∷ S) o.heap k m s o = record {
        here = inl refl;
        put = is_put_of_from o.heap k m s o on mine (ap is_put is);
        kept = or_from _ _ (and_right _ _ (and_right _ _ (own_unseen mine))) (not_dead_above S o.heap k m s o.n closed fresh);
      } in
      let nothing : by_site (site_sum (o ∷ S) o.heap k m s o.n) ≡ by_site (λ _. pos 0) =
      by_site-same _ _ (λ t _. site_sum_unseen (o ∷ S) o.heap k m s o.n t (λ p i a _. put_unseen mine p i a)) in
      addition_is K (o ∷ S) o.heap k m s o world stands
      ∙ (λ i. Some (record { n = o.n; score = score_put (is i); sums = nothing i }))

  -- what a new operation on the member makes of what it has of this site
  pub addition_after : is_on o.heap k m o ≡ true → addition_of (o ∷ S) o.heap k m s ≡ after o s (addition_of S o.heap k m s)
  addition_after on =
      elim (o.act) as (λ a. o.act ≡ a → addition_of (o ∷ S) o.heap k m s ≡ after_act a o.site o.n o.seen s (addition_of S o.heap k m s)) [
        | Put score ↦ λ is. cond_both (o.site == s) _ _ (λ x. addition_of (o ∷ S) o.heap k m s ≡ x)
            (λ mine. addition_put score on (eqb-true _ _ mine) is)
            (λ other. addition_removed on (ap is_removal is) (ap increment_of is) (and_right _ _ (and_left _ _ other)))
        | Bump i ↦ λ is. addition_bumped i on is
        | Drop ↦ λ is. addition_removed on (ap is_removal is) (ap increment_of is) (and_right _ _ (and_right _ _ (ap is_put is)))
      ] refl

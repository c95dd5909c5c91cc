-- The live Put of a site on a member, told by being in the set.

use Rattle.std.proofs.Common.{List, None, Some, T, ap, arith, false, get_or, inl, inr, not, subst, sym, true, true≢false, ℕ, ◌&&◌, ◌++◌, ◌+◌, ◌<◌, ◌||◌, ◌∙◌, ◌≡◌, ◌≤◌}
use Rattle.std.proofs.lemmas.Bool.{and_from, and_parts, cases_order, not-true, not_from_false}
use Rattle.std.proofs.lemmas.List.Folds.{list_any-append}
use Rattle.zq_model.proofs.Dots.{counter_positive, has_from, seen_last}
use Rattle.zq_model.proofs.Membership.{any_in, any_none, any_nothing, find_none, find_nothing, find_only, find_some}
use Rattle.zq_model.proofs.Places.{is_on_parts, is_put_of_parts, put_removes}
use Rattle.zq_model.proofs.Worlds.{IsWithin_heap}
use Rattle.zq_model.specs.Entry.{addition, addition_of, is_dead, is_put_of, live, removes}
use Rattle.zq_model.specs.Operation.{Operation, has, is_on, is_put, is_removal}
use Rattle.zq_model.specs.Sets.{IsClosed, IsIn, IsWorld, last}

-- a Put of the set by the site s on the member m of the key k, which no operation of the set has taken away
pub record IsStanding (S : List Operation) (h : ℕ) (k m : List ℕ) (s : ℕ) (o : Operation) : Type 0 where
  pub here : IsIn o S
  pub put : is_put_of h k m s o ≡ true
  pub kept : is_dead S h k m s o.n ≡ false

pub standing_heap : {S : List Operation} {h : ℕ} {k m : List ℕ} {s : ℕ} {o : Operation} → IsStanding S h k m s o → o.heap ≡ h
standing_heap {S} {h} {k} {m} {s} {o} p = (is_on_parts h k m o (is_put_of_parts h k m s o p.put).0).0

pub standing_site : {S : List Operation} {h : ℕ} {k m : List ℕ} {s : ℕ} {o : Operation} → IsStanding S h k m s o → o.site ≡ s
standing_site {S} {h} {k} {m} {s} {o} p = (is_put_of_parts h k m s o p.put).1

pub live_some : (S : List Operation) (h : ℕ) (k m : List ℕ) (s : ℕ) (o : Operation) → live S h k m s ≡ Some o → IsStanding S h k m s o
live_some S h k m s o e =
    let found : IsIn o S × ((is_put_of h k m s o && not (is_dead S h k m s o.n)) ≡ true) = find_some _ S o e in
    let parts : (is_put_of h k m s o ≡ true) × (not (is_dead S h k m s o.n) ≡ true) = and_parts _ _ found.1 in
    record { here = found.0; put = parts.0; kept = not-true _ parts.1 }

standing_passes : {S : List Operation} {h : ℕ} {k m : List ℕ} {s : ℕ} {o : Operation} → IsStanding S h k m s o →
    (is_put_of h k m s o && not (is_dead S h k m s o.n)) ≡ true
standing_passes p = and_from _ _ p.put (not_from_false _ p.kept)

pub live_none : (S : List Operation) (h : ℕ) (k m : List ℕ) (s : ℕ) (o : Operation) → live S h k m s ≡ None → IsStanding S h k m s o → ⊥
live_none S h k m s o e p = true≢false (sym (standing_passes p) ∙ find_none _ S o e p.here)

pub live_nothing : (S : List Operation) (h : ℕ) (k m : List ℕ) (s : ℕ) → ((o : Operation) → IsStanding S h k m s o → ⊥) → live S h k m s ≡ None
live_nothing S h k m s none = find_nothing _ S (λ o i e.
    let parts : (is_put_of h k m s o ≡ true) × (not (is_dead S h k m s o.n) ≡ true) = and_parts _ _ e in
    none o (record { here = i; put = parts.0; kept = not-true _ parts.1 }))

-- a Put takes away the earlier ones of its site, which it has seen
pub put_removes_earlier : (K : ℕ) (S : List Operation) (h : ℕ) (k m : List ℕ) (s : ℕ) (o p : Operation) → IsWorld K S →
    IsIn p S → is_put_of h k m s p ≡ true → 0 < o.n → o.n < p.n → is_dead S h k m s o.n ≡ true
put_removes_earlier K S h k m s o p world i put low less =
    let parts : (is_on h k m p ≡ true) × (p.site ≡ s) × (is_put p.act ≡ true) = is_put_of_parts h k m s p put in
    let next : p.n ≡ get_or p.seen p.site 0 + 1 = (world.each p i).next in
    let seen : o.n ≤ get_or p.seen s 0 = subst (λ t. o.n ≤ get_or p.seen t 0) parts.1 (omega arith) in
    any_in (removes h k m s o.n) S p i (and_from _ _ parts.0 (and_from _ _ (put_removes p.act parts.2) (has_from p.seen s o.n low seen)))

pub standing_one : (K : ℕ) (S : List Operation) (h : ℕ) (k m : List ℕ) (s : ℕ) (o p : Operation) → IsWorld K S →
    IsStanding S h k m s o → IsStanding S h k m s p → o ≡ p
standing_one K S h k m s o p world a b =
    let low : 0 < o.n = counter_positive K S o world a.here in
    let low_p : 0 < p.n = counter_positive K S p world b.here in
    elim (cases_order o.n p.n) [
      | inl same ↦ world.one o p a.here b.here (standing_heap a ∙ sym (standing_heap b)) (standing_site a ∙ sym (standing_site b)) same
      | inr (inl less) ↦ absurd (true≢false (sym (put_removes_earlier K S h k m s o p world b.here b.put low less) ∙ a.kept))
      | inr (inr more) ↦ absurd (true≢false (sym (put_removes_earlier K S h k m s p o world a.here a.put low_p more) ∙ b.kept))
    ]

pub live_is : (K : ℕ) (S : List Operation) (h : ℕ) (k m : List ℕ) (s : ℕ) (o : Operation) → IsWorld K S → IsStanding S h k m s o → live S h k m s ≡ Some o
live_is K S h k m s o world a = find_only _ S o a.here (standing_passes a) (λ p i e.
    let parts : (is_put_of h k m s p ≡ true) × (not (is_dead S h k m s p.n) ≡ true) = and_parts _ _ e in
    standing_one K S h k m s p o world (record { here = i; put = parts.0; kept = not-true _ parts.1 }) a)

pub addition_none : (S : List Operation) (h : ℕ) (k m : List ℕ) (s : ℕ) → ((o : Operation) → IsStanding S h k m s o → ⊥) → addition_of S h k m s ≡ None
addition_none S h k m s none = ap (addition S h k m s) (live_nothing S h k m s none)

pub addition_is : (K : ℕ) (S : List Operation) (h : ℕ) (k m : List ℕ) (s : ℕ) (o : Operation) → IsWorld K S → IsStanding S h k m s o →
    addition_of S h k m s ≡ addition S h k m s (Some o)
addition_is K S h k m s o world a = ap (addition S h k m s) (live_is K S h k m s o world a)

-- ---- what takes a Put away

-- no operation of a closed set takes away what is above its vector
pub not_dead_above : (S : List Operation) (h : ℕ) (k m : List ℕ) (s n : ℕ) → IsClosed S → last S h s < n → is_dead S h k m s n ≡ false
not_dead_above S h k m s n closed above = any_nothing (removes h k m s n) S (λ r i e.
    let parts : (is_on h k m r ≡ true) × ((is_removal r.act && has r.seen s n) ≡ true) = and_parts _ _ e in
    let more : (is_removal r.act ≡ true) × (has r.seen s n ≡ true) = and_parts _ _ parts.1 in
    let most : n ≤ last S h s = seen_last S r h s n closed i (is_on_parts h k m r parts.0).0 more.1 in omega arith)

pub is_dead-union : (S T : List Operation) (h : ℕ) (k m : List ℕ) (s n : ℕ) → is_dead (S ++ T) h k m s n ≡ (is_dead S h k m s n || is_dead T h k m s n)
is_dead-union S T h k m s n = list_any-append (removes h k m s n) S T

pub is_dead_same : (S T : List Operation) (h : ℕ) (k m : List ℕ) (s n : ℕ) → IsWithin_heap h S T → is_dead T h k m s n ≡ false → is_dead S h k m s n ≡ false
is_dead_same S T h k m s n within kept = any_nothing (removes h k m s n) S (λ r i e.
    let on : is_on h k m r ≡ true = (and_parts _ _ e).0 in
    true≢false (sym e ∙ any_none (removes h k m s n) T r kept (within r i (is_on_parts h k m r on).0)))

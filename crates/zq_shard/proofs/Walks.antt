-- What a walk promises is kept by changes, moved on by the walk, and whole at its end.

use Rattle.std.proofs.Common.{ap, arith, inl, inr, refl, subst, sym, true≢false, ◌∙◌}
use Rattle.std.proofs.lemmas.Bool.{cases_eq, cond-false, cond-true, cond_both, eq-eqb, ne_eqb}
use Rattle.std.proofs.lemmas.Option.{none-some, same_Some, slice_get_within}
use Rattle.std.specs.FinMap.{get}
use Rattle.std.specs.Ordering.{eq_by_cmp}
use Rattle.std.specs.Prelude.{Bool, List, None, Option, Some, cond, false, length, true, unwrap_or, ℕ, ℤ, ◌+ℤ◌, ◌++◌, ◌<◌, ◌==◌, ◌≡◌, ◌⊎◌}
use Rattle.zq_model.proofs.Entries.{addition_at-no_additions, at_stands, entry_unless_bare, get-put_entry}
use Rattle.zq_model.proofs.Maps.{place_exact, same_key}
use Rattle.zq_model.proofs.Membership.{in_left, in_right, in_union}
use Rattle.zq_model.proofs.Sites.{length-by_site}
use Rattle.zq_model.specs.Entry.{Addition, after_act, bumped, sum_at, without}
use Rattle.zq_model.specs.Image.{Entry, Members, Place, addition_at, entry_after, entry_at, no_additions, place_cmp, place_of, unless_bare}
use Rattle.zq_model.specs.Operation.{Act, Bump, Drop, Put, has}
use Rattle.zq_model.specs.Sets.{IsIn, by_site}
use Rattle.zq_shard.proofs.Standings.{IsBelow, left_standing, standing_left}
use Rattle.zq_shard.specs.Standing.{IsNoHigher, Order, StandsAt, left}
use Rattle.zq_shard.specs.Walk.{AddsNoneOld, BeginsWhole, EndsWhole, HasOld, MovesDown, StaysKept}
use Rattle.zq_shard.specs.declared.spot.Spot.{Spot}

-- a member with an addition stands in the map
pub with_entry : (members : Members) (q : Place) (s : ℕ) (a : Addition) → addition_at (entry_at members q) s ≡ Some a → (e : Entry) × (get members q ≡ Some e)
with_entry members q s a is = by (get members q) refl
  where
    by : (o : Option Entry) → get members q ≡ o → (e : Entry) × (get members q ≡ Some e)
    by None none = absurd (none-some a (sym (ap (λ r. addition_at (unwrap_or r no_additions) s) none ∙ addition_at-no_additions s) ∙ is))
    by (Some e) got = (e, got)

-- ---- where a walk begins, goes on and ends

within : (order : Order) (q : Place) (key member : ℕ) → StandsAt order q key member → key < length order
within order q key member stands = slice_get_within order key (q.0, stands.names) stands.its_key

pub begins_whole : BeginsWhole
begins_whole v s spot all above q old =
    let e = with_entry s.members q old.site old.addition old.stands in
    let at = all q e.0 e.1 in
    let stands = at.1.1 in
    inr (standing_left s.order q at.0 at.1.0 spot stands (inl (omega (arith, within s.order q at.0 at.1.0 stands, above))))

lower : (k m key member : ℕ) (spot : Spot) → IsNoHigher k m key member → IsBelow key member spot → IsBelow k m spot
lower k m key member spot (inl less) (inl below) = inl (omega (arith, less, below))
lower k m key member spot (inl less) (inr same) = inl (omega (arith, less, same.0))
lower k m key member spot (inr one) (inl below) = inl (omega (arith, one.0, below))
lower k m key member spot (inr one) (inr same) = inr (one.0 ∙ same.0, omega (arith, one.1, same.1))

pub stays_kept : StaysKept
stays_kept v sent old new spot sinks back promised q has_old =
    elim (promised q (back q has_old)) as (λ _. IsIn q sent ⊎ IsIn q (left new.order spot)) [
      | inl before ↦ inl before
      | inr there ↦
          let at = left_standing old.order q spot there in
          let e = with_entry new.members q has_old.site has_old.addition has_old.stands in
          let to = sinks q e.0 at.key at.member at.stands e.1 in
          inr (standing_left new.order q to.0 to.1.0 spot to.1.1.1 (lower to.0 to.1.0 at.key at.member spot to.1.1.0 at.below))
    ]

pub moves_down : MovesDown
moves_down v sent handed s spot next parts promised q has_old =
    elim (promised q has_old) as (λ _. IsIn q (sent ++ handed) ⊎ IsIn q (left s.order next)) [
      | inl before ↦ inl (in_left q sent handed before)
      | inr there ↦ elim (in_union q (left s.order next) handed (subst (IsIn q) parts there)) as (λ _. IsIn q (sent ++ handed) ⊎ IsIn q (left s.order next)) [
        | inl below ↦ inr below
        | inr now ↦ inl (in_right q sent handed now)
      ]
    ]

pub ends_whole : EndsWhole
ends_whole v sent s spot end promised q has_old =
    elim (promised q has_old) as (λ _. IsIn q sent) [
      | inl before ↦ before
      | inr there ↦
          let at = left_standing s.order q spot there in
          elim at.below as (λ _. IsIn q sent) [
            | inl below ↦ absurd (omega (arith, below, end.0))
            | inr same ↦ absurd (omega (arith, same.1, end.1))
          ]
    ]

-- ---- a new operation

-- what an act leaves of a site: its own addition, or one that was there
from_known : (seen : List ℕ) (s : ℕ) (x : Option Addition) (a : Addition) → without seen s x ≡ Some a → (b : Addition) × ((x ≡ Some b) × (b.n ≡ a.n))
from_known seen s None a is = absurd (none-some a is)
from_known seen s (Some b) a is = by (has seen s b.n) refl
  where
    by : (known : Bool) → has seen s b.n ≡ known → (c : Addition) × ((Some b ≡ Some c) × (c.n ≡ a.n))
    by true known = absurd (none-some a (sym (cond-true (has seen s b.n) None (Some b) known) ∙ is))
    by false unknown = (b, (refl, ap (λ (z : Addition). z.n) (same_Some b a (sym (cond-false (has seen s b.n) None (Some b) unknown) ∙ is))))

bumped_n : (seen : List ℕ) (s t : ℕ) (i : ℤ) (b : Addition) → (bumped seen s t i b).n ≡ b.n
bumped_n seen s t i b = by (has seen s b.n)
  where
    by : (known : Bool) → (cond known (record { n = b.n; score = b.score; sums = by_site (λ r. cond (r == t) (sum_at b r +ℤ i) (sum_at b r)) }) b).n ≡ b.n
    by true = refl
    by false = refl

act_from : (act : Act) (t n : ℕ) (seen : List ℕ) (s : ℕ) (x : Option Addition) (a : Addition) → after_act act t n seen s x ≡ Some a →
    ((t ≡ s) × (n ≡ a.n)) ⊎ ((b : Addition) × ((x ≡ Some b) × (b.n ≡ a.n)))
act_from (Put score) t n seen s x a is = elim (cases_eq t s) as (λ _. ((t ≡ s) × (n ≡ a.n)) ⊎ ((b : Addition) × ((x ≡ Some b) × (b.n ≡ a.n)))) [
  | inl same ↦ inl (same, ap (λ (z : Addition). z.n) (same_Some _ _ (sym (cond-true _ _ (without seen s x) (eq-eqb t s same)) ∙ is)))
  | inr other ↦ inr (from_known seen s x a (sym (cond-false _ _ (without seen s x) (ne_eqb t s other)) ∙ is))
]
act_from (Bump i) t n seen s None a is = absurd (none-some a is)
act_from (Bump i) t n seen s (Some b) a is = inr (b, (refl, sym (bumped_n seen s t i b) ∙ ap (λ (z : Addition). z.n) (same_Some _ _ is)))
act_from Drop t n seen s x a is = inr (from_known seen s x a is)

pub adds_none_old : AddsNoneOld
adds_none_old v o a q new old =
    let after = entry_after o.act o.site o.n o.seen (entry_at a.members (place_of o)) in
    cond_both (eq_by_cmp place_cmp q (place_of o)) (unless_bare after) (get a.members q) (λ r. addition_at (unwrap_or r no_additions) old.site ≡ Some old.addition → HasOld v a.members q)
    (λ here stands. subst (HasOld v a.members) (sym (same_key place_exact q (place_of o) here))
    (its_own (ap (λ e. addition_at e old.site) (sym (entry_unless_bare after (length-by_site _))) ∙ stands)))
    (λ _ stands. record { site = old.site; addition = old.addition; stands = stands; old = old.old })
    (ap (λ r. addition_at (unwrap_or r no_additions) old.site) (sym (get-put_entry a.members (place_of o) after q)) ∙ old.stands)
  where
    its_own : addition_at (entry_after o.act o.site o.n o.seen (entry_at a.members (place_of o))) old.site ≡ Some old.addition → HasOld v a.members (place_of o)
    its_own stands =
        elim (act_from o.act o.site o.n o.seen old.site (addition_at (entry_at a.members (place_of o)) old.site) old.addition
        (at_stands (λ s. after_act o.act o.site o.n o.seen s (addition_at (entry_at a.members (place_of o)) s)) old.site old.addition stands).1) as (λ _. HasOld v a.members (place_of o)) [
          | inl own ↦ absurd (true≢false (sym old.old ∙ (λ k. has v (sym own.0 k) (sym own.1 k)) ∙ new))
          | inr from ↦ record { site = old.site; addition = from.0; stands = from.1.0; old = ap (has v old.site) from.1.1 ∙ old.old }
        ]

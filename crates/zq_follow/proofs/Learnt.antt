-- What an At says of what was sent.

use Rattle.std.proofs.Common.{Bool, List, None, Option, Some, arith, cond, false, inl, inr, le-leb, lt-ltb, max, min, refl, subst, sym, true, ℕ, ◌&&◌, ◌<◌, ◌≡◌, ◌≤◌}
use Rattle.std.proofs.lemmas.Bool.{and_from, cases_lt, cond-true}
use Rattle.std.specs.Prelude.{nat_le, nat_lt, slice_index}
use Rattle.zq_model.proofs.Sites.{by_site-at, by_site-past}
use Rattle.zq_model.specs.Image.{join_vector}
use Rattle.zq_model.specs.Sets.{SITES}
use Rattle.zq_follow.proofs.EachSite.{any_site_at}
use Rattle.zq_follow.specs.Follow.{answered, begun, compared, joined, weighed}
use Rattle.zq_follow.specs.FollowLaws.{LostIsSentAgain, NothingIsClaimed, sent_at}
use Rattle.zq_follow.specs.Sent.{settled, settled_at}
use Rattle.zq_follow.specs.declared.at.HeardAt.{HeardAt}
use Rattle.zq_follow.specs.declared.at.Probe.{Probe}
use Rattle.zq_follow.specs.declared.follow.Follow.{Follow}

-- ---- of one site

settled-at : (sent probed heard : List ℕ) (o : ℕ) → o < SITES →
    slice_index (settled sent probed heard) o ≡ settled_at (slice_index sent o) (slice_index probed o) (slice_index heard o)
settled-at sent probed heard o below = by_site-at _ o 0 below

settled_at-lost : (sent probed heard : ℕ) → heard < probed → settled_at sent probed heard ≤ heard
settled_at-lost sent probed heard less = rw (lt-ltb heard probed less) (omega arith)

settled_at-claims : (sent probed heard : ℕ) → settled_at sent probed heard ≤ max sent heard
settled_at-claims sent probed heard =
    elim (nat_lt heard probed) as (λ b. cond b (min sent heard) (max sent heard) ≤ max sent heard) [ true ↦ omega arith | false ↦ omega arith ]

settled-claims : (sent probed heard : List ℕ) (o : ℕ) →
    slice_index (settled sent probed heard) o ≤ max (slice_index sent o) (slice_index heard o)
settled-claims sent probed heard o =
    elim (cases_lt o SITES) [
      | inl below ↦ rw (settled-at sent probed heard o below) (settled_at-claims (slice_index sent o) (slice_index probed o) (slice_index heard o))
      | inr past ↦ (let none : slice_index (settled sent probed heard) o ≡ 0 = by_site-past _ o 0 past in omega arith)
    ]

joined-claims : (sent heard : List ℕ) (o : ℕ) →
    slice_index (join_vector sent heard) o ≤ max (slice_index sent o) (slice_index heard o)
joined-claims sent heard o =
    elim (cases_lt o SITES) [
      | inl below ↦ (let at : slice_index (join_vector sent heard) o ≡ max (slice_index sent o) (slice_index heard o) = by_site-at _ o 0 below in omega arith)
      | inr past ↦ (let none : slice_index (join_vector sent heard) o ≡ 0 = by_site-past _ o 0 past in omega arith)
    ]

-- ---- nothing is claimed

compared-claims : (probe : Option Probe) (sent : List ℕ) (at : HeardAt) (first : ℕ) (f : Follow) (o : ℕ) →
    sent_at (compared probe sent at first f).sent o ≤ max (slice_index sent o) (slice_index at.vector o)
compared-claims None sent at first f o = joined-claims sent at.vector o
compared-claims (Some probe) sent at first f o =
    elim (nat_le probe.turn at.echo) as (λ b. sent_at (cond b (answered sent probe.sent at.vector first f) (joined sent at.vector f)).sent o ≤ max (slice_index sent o) (slice_index at.vector o)) [
      | true ↦ settled-claims sent probe.sent at.vector o
      | false ↦ joined-claims sent at.vector o
    ]

weighed-claims : (sent : Option (List ℕ)) (at : HeardAt) (first : ℕ) (f : Follow) (o : ℕ) →
    sent_at (weighed sent at first f).sent o ≤ max (sent_at sent o) (slice_index at.vector o)
weighed-claims None at first f o = omega arith
weighed-claims (Some sent) at first f o =
    elim (f.shut && at.open) as (λ b. sent_at (cond b (begun at.vector first f) (compared f.probe sent at first f)).sent o ≤ max (slice_index sent o) (slice_index at.vector o)) [
      | true ↦ omega arith
      | false ↦ compared-claims f.probe sent at first f o
    ]

pub nothing_is_claimed : NothingIsClaimed
nothing_is_claimed f at first o = weighed-claims f.sent at first f o

-- ---- what was lost is sent again

-- what an At makes of one site of which something was lost
record IsLowered (sent : Option (List ℕ)) (g : Follow) (at : HeardAt) (first o : ℕ) : Type 0 where
  lowered : sent_at g.sent o ≤ slice_index at.vector o
  again : slice_index at.vector o < sent_at sent o → g.place ≡ first

answered-lowers : (sent : List ℕ) (probe : Probe) (at : HeardAt) (first : ℕ) (f : Follow) (o : ℕ) →
    o < SITES → slice_index at.vector o < slice_index probe.sent o →
    IsLowered (Some sent) (answered sent probe.sent at.vector first f) at first o
answered-lowers sent probe at first f o below less = record {
  lowered = rw (settled-at sent probe.sent at.vector o below) (settled_at-lost (slice_index sent o) (slice_index probe.sent o) (slice_index at.vector o) less);
  again = λ more. cond-true _ _ _ (any_site_at (λ t. nat_lt (slice_index at.vector t) (slice_index probe.sent t) && nat_lt (slice_index at.vector t) (slice_index sent t)) o below (and_from _ _ (lt-ltb _ _ less) (lt-ltb _ _ more)));
}

compared-lowers : (p : Option Probe) (sent : List ℕ) (probe : Probe) (at : HeardAt) (first : ℕ) (f : Follow) (o : ℕ) →
    o < SITES → p ≡ Some probe → probe.turn ≤ at.echo →
    slice_index at.vector o < slice_index probe.sent o →
    IsLowered (Some sent) (compared p sent at first f) at first o
compared-lowers p sent probe at first f o below is heard less =
    subst (λ (q : Option Probe). IsLowered (Some sent) (compared q sent at first f) at first o) (sym is)
    (subst (λ (b : Bool). IsLowered (Some sent) (cond b (answered sent probe.sent at.vector first f) (joined sent at.vector f)) at first o) (sym (le-leb probe.turn at.echo heard)) (answered-lowers sent probe at first f o below less))

weighed-lowers : (sent : Option (List ℕ)) (probe : Probe) (at : HeardAt) (first : ℕ) (f : Follow) (o : ℕ) →
    o < SITES → f.probe ≡ Some probe → probe.turn ≤ at.echo →
    slice_index at.vector o < slice_index probe.sent o →
    IsLowered sent (weighed sent at first f) at first o
weighed-lowers None probe at first f o below is heard less = record { lowered = omega arith; again = λ more. refl }
weighed-lowers (Some sent) probe at first f o below is heard less =
    elim (f.shut && at.open) as (λ b. IsLowered (Some sent) (cond b (begun at.vector first f) (compared f.probe sent at first f)) at first o) [
      | true ↦ record { lowered = omega arith; again = λ more. refl }
      | false ↦ compared-lowers f.probe sent probe at first f o below is heard less
    ]

pub lost_is_sent_again : LostIsSentAgain
lost_is_sent_again f at first o probe below is heard less =
    let w = weighed-lowers f.sent probe at first f o below is heard less in
    record { lowered = w.lowered; again = w.again }

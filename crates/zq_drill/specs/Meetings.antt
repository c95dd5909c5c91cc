-- What sites hand to one another.

use Rattle.std.specs.Prelude.{List, Some, [], if◌then◌else◌, slice_get, slice_set, suc, zero, ℕ, ◌++◌, ◌==◌, ◌∷◌, ◌≡◌}
use Rattle.zq_drill.specs.Limits.{heap_count}
use Rattle.zq_drill.specs.SiteHandles.{Place, place_at}
use Rattle.zq_node.specs.Calls.{Copied, IsCalled, Merged}
use Rattle.zq_shard.specs.Shard.{HeapImage}
use Rattle.zq_spread.specs.declared.pass.Pass.{Pass}
use Rattle.zq_spread.specs.declared.site.Site.{Site}

-- a copy of the sender's heap was merged into the receiver
pub record IsHandedOver (sender receiver : Site) (heap : ℕ) (s t : Pass) (p q : Pass) : Type 0 where
  pub image : HeapImage
  pub copied : IsCalled sender s t (Copied heap image)
  pub merged : IsCalled receiver p q (Merged image)

-- so was each heap below this number, in rising order, and nothing else was done
abbrev pub AreHandedOver : Site → Site → ℕ → Pass → Pass → Pass → Pass → Type 0
AreHandedOver sender receiver zero s t p q = (t ≡ s) × (q ≡ p)
AreHandedOver sender receiver (suc heap) s t p q =
    (between : Pass) × (mid : Pass) × AreHandedOver sender receiver heap s between p mid
    × IsHandedOver sender receiver heap between t mid q

-- the heaps of the sender were handed to the receiver, which are these of the places, and nothing
-- else was done
pub record IsMeeting (receiver sender : ℕ) (before after : List Place) : Type 0 where
  pub to : Place
  pub from : Place
  pub got : Pass
  pub gave : Pass
  pub to_is : slice_get before receiver ≡ Some to
  pub from_is : slice_get before sender ≡ Some from
  pub handed : AreHandedOver from.site to.site heap_count from.pass gave to.pass got
  pub after_is : after ≡ slice_set (slice_set before sender (place_at from.site gave)) receiver
      (place_at to.site got)

-- so it was by each of these pairs, one after the other: a receiver and its sender
abbrev pub AreMeetings : List (ℕ × ℕ) → List Place → List Place → Type 0
AreMeetings [] before after = after ≡ before
AreMeetings (pair ∷ pairs) before after = (mid : List Place) × IsMeeting pair.0 pair.1 before mid
    × AreMeetings pairs mid after

-- a receiver and its sender, unless they are one site
abbrev pub pair_of : ℕ → ℕ → List (ℕ × ℕ)
pair_of receiver sender = if sender == receiver then [] else (receiver, sender) ∷ []

-- a receiver and each sender below a number, in rising order
abbrev pub to_one : ℕ → ℕ → List (ℕ × ℕ)
to_one receiver zero = []
to_one receiver (suc sender) = to_one receiver sender ++ pair_of receiver sender

-- each receiver below a number, in rising order, and each of so many senders
abbrev pub to_each : ℕ → ℕ → List (ℕ × ℕ)
to_each senders zero = []
to_each senders (suc receiver) = to_each senders receiver ++ to_one receiver senders

-- each of three sites and each other one: the receivers in rising order, and for each of them the
-- senders
abbrev pub round : List (ℕ × ℕ)
round = (0, 1) ∷ (0, 2) ∷ (1, 0) ∷ (1, 2) ∷ (2, 0) ∷ (2, 1) ∷ []

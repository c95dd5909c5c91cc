-- What waits to be sent to a peer.
use Rattle.std.specs.Prelude.{◌≡◌, ℕ, ◌<◌, Bool, false, ◌||◌, List, [], ◌∷◌, if◌then◌else◌}
use Rattle.zq_wire.specs.declared.topic.Topic.{Topic}
use Rattle.zq_wire.specs.declared.parcel.Parcel.{Parcel}
use Rattle.zq_wire.specs.Topic.{heap_of, same_topic}

-- frames by their bytes, each with its topic, the first to be sent first
abbrev pub Parcels : Type 0
Parcels = List (Topic × List ℕ)

-- what callers see of an outbox: the number of the site's heaps, and what waits
pub record Waiting : Type 0 where
  pub heaps : ℕ
  pub parcels : Parcels

-- a frame of this topic takes the place of the older one, or waits last
abbrev pub put_in : Topic → List ℕ → Parcels → Parcels
put_in topic frame [] = (topic, frame) ∷ []
put_in topic frame (p ∷ parcels) = if same_topic p.0 topic then (topic, frame) ∷ parcels else p
    ∷ put_in topic frame parcels

-- whether a frame of this topic waits
abbrev pub waits : Topic → Parcels → Bool
waits topic [] = false
waits topic (p ∷ parcels) = same_topic p.0 topic || waits topic parcels

-- of each topic of these heaps one frame at most
abbrev pub AreParcels : ℕ → Parcels → Type 0
AreParcels heaps [] = Unit {0}
AreParcels heaps (p ∷ parcels) = (heap_of p.0 < heaps) × (waits p.0 parcels ≡ false)
    × AreParcels heaps parcels

-- as contracts see it
abbrev pub parcel_of : Parcel → Topic × List ℕ
parcel_of p = (p.topic, p.frame.items)

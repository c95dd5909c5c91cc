-- Where the members of a heap stand: each key has a number, and each member one among its key's.

use Rattle.std.specs.Prelude.{List, None, Option, Some, [], flat_map, map, slice_get, take, ℕ, ◌++◌, ◌<◌, ◌≡◌, ◌≤◌, ◌⊎◌}
use Rattle.zq_model.specs.Image.{Place}
use Rattle.zq_queue.specs.Queued.{Queued}
use Rattle.zq_shard.specs.declared.spot.Spot.{Spot}

-- the keys by their numbers, each with its members by theirs
abbrev pub Order : Type 0
Order = List (List ℕ × List (List ℕ))

abbrev pub order_of : List (List ℕ × Queued) → Order
order_of queues = map (λ e. (e.0, e.1.places)) queues

-- the member of a key stands at these numbers
pub record StandsAt (order : Order) (q : Place) (key member : ℕ) : Type 0 where
  pub names : List (List ℕ)
  pub its_key : slice_get order key ≡ Some (q.0, names)
  pub its_member : slice_get names member ≡ Some q.1

-- the members of a key
abbrev pub of_key : List ℕ × List (List ℕ) → List Place
of_key e = map (λ member. (e.0, member)) e.1

-- the first so many members of a key, where there is one
abbrev pub firsts_of : ℕ → Option (List ℕ × List (List ℕ)) → List Place
firsts_of n None = []
firsts_of n (Some e) = of_key (e.0, take n e.1)

-- what is left at a spot: all members of the keys below its key, and those of its key below its
-- member
abbrev pub left : Order → Spot → List Place
left order spot =
    flat_map of_key (take spot.key order) ++ firsts_of spot.member (slice_get order spot.key)

-- nothing comes below the spot
abbrev pub IsEnd : Spot → Type 0
IsEnd spot = (spot.key ≡ 0) × (spot.member ≡ 0)

-- the first two numbers come no higher than the last two
abbrev pub IsNoHigher : ℕ → ℕ → ℕ → ℕ → Type 0
IsNoHigher k m key member = (k < key) ⊎ ((k ≡ key) × (m ≤ member))

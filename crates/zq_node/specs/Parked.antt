-- Operations that are parked.

use Rattle.std.specs.BTreeMap.{is_at}
use Rattle.std.specs.Map.{lookup}
use Rattle.std.specs.Option.{IfSome}
use Rattle.std.specs.Ordering.{nat_cmp, ordering_then}
use Rattle.std.specs.Prelude.{List, Option, Some, cond, length, slice_index, ℕ, ◌+◌, ◌<◌, ◌≡◌, ◌≢◌, ◌≤◌, ◌⊎◌}
use Rattle.std.specs.declared.cmp.Ordering.{Ordering}
use Rattle.zq_dots.specs.Placed.{Placed}
use Rattle.zq_model.specs.Sets.{Early, SITES, taken_of}

-- a heap, a site and a counter
abbrev pub Place : Type 0
Place = ℕ × ℕ × ℕ

abbrev pub place_cmp : Place → Place → Ordering
place_cmp p q = ordering_then (ordering_then (nat_cmp p.0 q.0) (nat_cmp p.1 q.1)) (nat_cmp p.2 q.2)

abbrev pub place_of : Placed → Place
place_of o = (o.operation.heap, o.operation.site, o.operation.n)

-- the operations by place
abbrev pub Entries : Type 0
Entries = List (Place × Placed)

-- a place for operations that came early: those that are there, and how many there may be
pub record Parking : Type 0 where
  pub entries : Entries
  pub most : ℕ

-- the operation that is parked at a place
abbrev pub parked_at : Entries → Place → Option Placed
parked_at parked p = lookup (is_at (place_cmp p)) parked

abbrev pub IsParked : Entries → Placed → Type 0
IsParked parked o = parked_at parked (place_of o) ≡ Some o

-- one of its heap and dot is parked
abbrev pub HasPlaceOf : Entries → Placed → Type 0
HasPlaceOf parked o = (p : Placed) × IsParked parked p × (place_of p ≡ place_of o)

-- at this place there is what is given, and elsewhere what there was
abbrev pub IsUpdated : Entries → Entries → Place → Option Placed → Type 0
IsUpdated old new p what = (q : Place) →
    parked_at new q ≡ cond (is_at (place_cmp p) q) what (parked_at old q)

-- its site is one, and its counter is the next of its site after those that it has seen
pub record IsNext (o : Placed) : Type 0 where
  pub site : o.operation.site < SITES
  pub next : o.operation.n ≡ slice_index o.operation.seen o.operation.site + 1

-- each operation lies at its place, and its counter is the next of its site
abbrev pub ArePlaced : Entries → Type 0
ArePlaced parked = (q : Place) → IfSome (parked_at parked q) (λ o. (place_of o ≡ q) × IsNext o)

-- an operation of this heap is parked there that is not Early by this vector
abbrev pub IsReadyAt : Entries → ℕ → List ℕ → Place → Type 0
IsReadyAt parked heap vector p =
    (o : Placed) × (parked_at parked p ≡ Some o) × (o.operation.heap ≡ heap)
    × (taken_of vector o.operation ≢ Early)

-- what is parked of this heap and this site is Early by this vector
abbrev pub IsSiteEarly : Entries → ℕ → List ℕ → ℕ → Type 0
IsSiteEarly parked heap vector site =
    (o : Placed) → IsParked parked o → o.operation.heap ≡ heap → o.operation.site ≡ site →
    taken_of vector o.operation ≡ Early

-- an operation is put away where there may be so many: where one of its heap and dot is parked, or
-- as many as may be are, nothing changes, and else it is parked
abbrev pub IsPutAway : ℕ → Placed → Entries → Entries → Type 0
IsPutAway most o old new =
    (HasPlaceOf old o × (new ≡ old))
    ⊎ ((HasPlaceOf old o → ⊥) × (most ≤ length old) × (new ≡ old))
    ⊎ ((HasPlaceOf old o → ⊥) × (length old < most) × IsUpdated old new (place_of o) (Some o)
    × (length new ≡ length old + 1))

-- How far peers are behind a site.

use Rattle.std.specs.List.{find}
use Rattle.std.specs.Prelude.{List, None, Option, Some, replicate, slice_get, true, ℕ, ◌==◌}
use Rattle.zq_follow.specs.Counts.{beyond}
use Rattle.zq_model.specs.Sets.{by_site}
use Rattle.zq_replica.specs.declared.end.End.{End}
use Rattle.zq_replica.specs.declared.end.HeapEnd.{HeapEnd}
use Rattle.zq_replica.specs.declared.replica.Replica.{Replica}

-- how many of these operations, of whatever sites, are not among others
abbrev pub beyond_all : List ℕ → List ℕ → ℕ
beyond_all one other = beyond (replicate 64 true) one other

-- how many operations these are
unfoldable pub all_of : List ℕ → ℕ
all_of vector = beyond_all vector (by_site (λ _. 0))

-- how many of these operations a peer has not said that it has
abbrev pub beyond_in : Option HeapEnd → List ℕ → ℕ
beyond_in None vector = all_of vector
beyond_in (Some at_heap) vector = beyond_all vector at_heap.follow.heard

abbrev pub beyond_heard : End → ℕ → List ℕ → ℕ
beyond_heard end heap vector = beyond_in (slice_get end.heaps.items heap) vector

abbrev pub beyond_said : Option End → ℕ → List ℕ → ℕ
beyond_said None heap vector = all_of vector
beyond_said (Some end) heap vector = beyond_heard end heap vector

abbrev pub lag_of : ℕ → ℕ → List ℕ → Replica → ℕ
lag_of peer heap vector replica =
    beyond_said (find (λ end. end.peer == peer) replica.ends.items) heap vector

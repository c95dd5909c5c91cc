-- Whether peers have what a site made.

use Rattle.std.specs.List.{list_any}
use Rattle.std.specs.Prelude.{Bool, List, None, Option, Some, false, nat_lt, slice_get, slice_index, true, ℕ, ◌&&◌}
use Rattle.zq_replica.specs.declared.end.End.{End}
use Rattle.zq_replica.specs.declared.end.HeapEnd.{HeapEnd}
use Rattle.zq_replica.specs.declared.protocol.Protocol.{Protocol}
use Rattle.zq_replica.specs.declared.protocol.Protocol.TheVariants.{Asking, Pushing, Streaming}
use Rattle.zq_replica.specs.declared.replica.Replica.{Replica}

-- whether a link is up over which operations are pushed
abbrev pub is_pushed : Option Protocol → Bool
is_pushed None = false
is_pushed (Some Asking) = false
is_pushed (Some Pushing) = true
is_pushed (Some Streaming) = true

-- how many operations of a site a peer said that it has of a heap
abbrev pub said_in : Option HeapEnd → ℕ → ℕ
said_in None site = 0
said_in (Some at_heap) site = slice_index at_heap.follow.heard site

abbrev pub said_of : End → ℕ → ℕ → ℕ
said_of end heap site = said_in (slice_get end.heaps.items heap) site

-- whether a peer that is pushed to has not said that it has all that a site made of a heap, whose
-- vector this is
abbrev pub is_ahead_in : Replica → ℕ → List ℕ → Bool
is_ahead_in replica heap vector =
    list_any (λ end. is_pushed end.protocol
    && nat_lt (said_of end heap replica.own) (slice_index vector replica.own)) replica.ends.items

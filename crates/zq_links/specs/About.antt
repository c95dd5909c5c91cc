-- What frames are about.

use Rattle.std.specs.Option.{option_map}
use Rattle.std.specs.Prelude.{List, None, Option, Some, [], slice_get, ℕ, ◌∷◌}
use Rattle.zq_links.specs.Frame.{Frame, OfHave, OfOps, OfState}
use Rattle.zq_links.specs.Kind.{kind_of}
use Rattle.zq_links.specs.declared.kind.Kind.{Kind}
use Rattle.zq_links.specs.declared.kind.Kind.TheVariants as kind
use Rattle.zq_wire.specs.declared.topic.Topic.{Topic}
use Rattle.zq_wire.specs.declared.topic.Topic.TheVariants.{Answer, Have}

-- a Have of its heap, or an answer of its heap; of operations the heap is that of the first one
abbrev pub about : Frame → Option Topic
about (OfHave have) = Some (Have have.heap)
about (OfOps []) = None
about (OfOps (op ∷ ops)) = Some (Answer op.operation.heap)
about (OfState state) = Some (Answer state.heap)

-- what follows the kind is about: behind the number of heaps, which a State and an operation have
-- behind their version, and an operation behind four bytes that count
abbrev pub topic_in : Option Kind → List ℕ → Option Topic
topic_in None bytes = None
topic_in (Some (kind.Have v)) bytes = option_map Have (slice_get bytes 1)
topic_in (Some kind.Ops) bytes = option_map Answer (slice_get bytes 6)
topic_in (Some kind.State) bytes = option_map Answer (slice_get bytes 2)

-- what the bytes are about
abbrev pub topic_at : List ℕ → Option Topic
topic_at [] = None
topic_at (kind ∷ bytes) = topic_in (kind_of kind) bytes

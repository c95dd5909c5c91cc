-- What frames to a peer are about.
use Rattle.std.specs.Prelude.{ℕ, ◌==◌, Bool, false}
use Rattle.zq_wire.specs.declared.topic.Topic.{Topic}
use Rattle.zq_wire.specs.declared.topic.Topic.TheVariants.{Have, Answer}

abbrev pub heap_of : Topic → ℕ
heap_of (Have heap) = heap
heap_of (Answer heap) = heap

abbrev pub same_topic : Topic → Topic → Bool
same_topic (Have heap) (Have another) = heap == another
same_topic (Answer heap) (Answer another) = heap == another
same_topic (Have heap) (Answer another) = false
same_topic (Answer heap) (Have another) = false

-- The fields of a shard, as a heap's image.

use Rattle.zq_shard.specs.Shard.{HeapImage}
use Rattle.zq_shard.specs.declared.shard.Shard.TheInside.{Inside}

abbrev pub heap_image_of : Inside → HeapImage
heap_image_of s = record {
  heap = s.heap;
  heaps = s.heaps;
  rule = s.queues.rule;
  image = record { vector = s.vector; members = s.queues.members };
}

use Rattle.std.proofs.Common.{List, map, ◌≡◌}
use Rattle.zq_drill.proofs.listing.collect.Given as goal
use Rattle.zq_drill.specs.Listed.{AreCopied, members_of}
use Rattle.zq_drill.specs.Lists.{listed}
use Rattle.zq_drill.specs.SiteHandles.{site_of}
use Rattle.zq_shard.specs.Shard.{HeapImage}

abbrev pub invariant-loop-heap : goal.invariant-loop-heap
invariant-loop-heap g l =
    (l.handle.drill_site ≡ l.initial.handle.drill_site)
    × ((images : List HeapImage) × AreCopied (site_of l.initial.handle) l.initial.handle.pass l.handle.pass l.heap images × (map listed l.list.items ≡ members_of images))

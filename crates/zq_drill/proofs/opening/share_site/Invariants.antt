use Rattle.std.proofs.Common.{All, length, ◌+◌, ◌≡◌}
use Rattle.std.specs.Arc.{arc_value}
use Rattle.std.specs.Vec.Iter.{into_iter_items, into_iter_len}
use Rattle.zq_drill.proofs.opening.share_site.Given as goal
use Rattle.zq_drill.specs.SiteHandles.{site_of}
use Rattle.zq_spread.specs.Passes.{IsPassOf}

abbrev pub invariant-loop-pass : goal.invariant-loop-pass
invariant-loop-pass l =
    All (IsPassOf (arc_value l.drill_site).site) (into_iter_items l.pass-iterator)
    × (into_iter_len l.pass-iterator ≡ length (into_iter_items l.pass-iterator))
    × (length l.handles.items + length (into_iter_items l.pass-iterator) ≡ length l.fn.passes.items)
    × All (λ handle. site_of handle ≡ (arc_value l.drill_site).site) l.handles.items

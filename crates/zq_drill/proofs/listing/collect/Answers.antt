use Rattle.std.proofs.Common.{ap, codes, subst, ◌∙◌, ◌++◌, ◌∷◌}
use Rattle.zq_drill.proofs.Nexts.{copied_next}
use Rattle.zq_drill.proofs.SiteShares.{same_site}
use Rattle.zq_drill.proofs.listing.collect.Goals as goal
use Rattle.zq_drill.specs.SiteHandles.{site_of}
use Rattle.zq_node.specs.Calls.{Copied, IsCalled}
use Rattle.zq_shard.specs.Shard.{queue_at}

pub loop-heap-preserved : goal.loop-heap-preserved
loop-heap-preserved g c =
    let inv = c.loop-heap.invariant in
    let handle = c.loop-heap.handle in
    let image = c.in_ok-shard.shard in
    let copied = subst (λ site. IsCalled site handle.pass c.state.new.self.pass (Copied c.loop-heap.heap image)) (same_site handle c.args.handle.now inv.0) c.in_ok-shard.ensures.copied in
    let listed = c.in_ok-add_heap.ensures ∙ ap (λ xs. xs ++ queue_at image (codes "q")) inv.1.2 in
    (c.state.ensures.drill_site ∙ inv.0, (image ∷ inv.1.0, copied_next (site_of c.args.handle.now) c.loop-heap.heap c.args.handle.now.pass handle.pass c.state.new.self.pass inv.1.0 image inv.1.1 copied, listed))

use Rattle.std.proofs.Common.{take, ◌≡◌}
use Rattle.zq_site.proofs.peer_links.dialers_of.Given as goal
use Rattle.zq_site.specs.PeerLinks.{dialers}

abbrev pub invariant-loop-site : goal.invariant-loop-site
invariant-loop-site l = l.greater.items ≡ dialers l.own (take l.site-index l.sites)

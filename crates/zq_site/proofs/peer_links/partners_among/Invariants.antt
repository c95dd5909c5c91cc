use Rattle.std.proofs.Common.{take, ◌≡◌}
use Rattle.zq_site.proofs.peer_links.partners_among.Given as goal
use Rattle.zq_site.specs.PeerLinks.{partners_among}

abbrev pub invariant-loop-site : goal.invariant-loop-site
invariant-loop-site l =
    l.partners.items
    ≡ partners_among l.settings.site l.settings.accept l.settings.peers (take l.site-index l.sites)

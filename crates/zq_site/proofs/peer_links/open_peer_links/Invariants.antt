use Rattle.std.proofs.Common.{map, take, ◌≡◌}
use Rattle.zq_site.proofs.peer_links.open_peer_links.Given as goal

abbrev pub invariant-loop-site : goal.invariant-loop-site
invariant-loop-site l = map (λ peer_link. peer_link.site) l.peer_links.items ≡ take l.site-index l.sites

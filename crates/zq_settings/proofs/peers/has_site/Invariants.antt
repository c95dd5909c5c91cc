use Rattle.std.proofs.Common.{◌≡◌, ◌==◌, drop}
use Rattle.std.specs.List.{list_any}
use Rattle.zq_settings.specs.Peers.{sites_of}
use Rattle.zq_settings.proofs.peers.has_site.Given as goal

abbrev pub invariant-loop-peer : goal.invariant-loop-peer
invariant-loop-peer l =
    list_any (λ other. other == l.site) (sites_of l.peers) ≡ list_any (λ other. other == l.site) (sites_of (drop l.peer-index l.peers))

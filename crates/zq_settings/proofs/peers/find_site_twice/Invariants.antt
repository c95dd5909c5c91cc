use Rattle.std.proofs.Common.{◌≡◌, length}
use Rattle.zq_settings.specs.Peers.{sites_of}
use Rattle.zq_settings.specs.Ports.{first_twice}
use Rattle.zq_settings.proofs.peers.find_site_twice.Given as goal

abbrev pub invariant-loop-first : goal.invariant-loop-first
invariant-loop-first l = first_twice (sites_of l.peers) ≡ first_twice (sites_of l.rest)

abbrev pub decreases-loop-first : goal.decreases-loop-first
decreases-loop-first l = length l.rest

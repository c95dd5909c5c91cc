use Rattle.std.proofs.Common.{◌≡◌}
use Rattle.zq_peers.specs.Sites.{others_below}
use Rattle.zq_peers.proofs.sites.others.Given as goal

abbrev pub invariant-loop-place : goal.invariant-loop-place
invariant-loop-place l = l.others.items ≡ others_below l.number l.place

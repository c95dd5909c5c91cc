use Rattle.std.proofs.Common.{[], ◌≡◌}
use Rattle.std.specs.Prelude.{replicate}
use Rattle.zq_peers.proofs.lossy.Lossy.new.Given as goal

abbrev pub invariant-loop-site : goal.invariant-loop-site
invariant-loop-site g l = l.links.items ≡ replicate l._site []

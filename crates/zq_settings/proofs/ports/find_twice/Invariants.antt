use Rattle.std.proofs.Common.{◌≡◌, length}
use Rattle.zq_settings.specs.Ports.{first_twice}
use Rattle.zq_settings.proofs.ports.find_twice.Given as goal

abbrev pub invariant-loop-first : goal.invariant-loop-first
invariant-loop-first l = first_twice l.ports ≡ first_twice l.rest

abbrev pub decreases-loop-first : goal.decreases-loop-first
decreases-loop-first l = length l.rest

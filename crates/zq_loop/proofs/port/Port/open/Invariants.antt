use Rattle.std.proofs.Common.{length, ◌≡◌}
use Rattle.zq_loop.proofs.port.Port.open.Given as goal

abbrev pub invariant-loop-place : goal.invariant-loop-place
invariant-loop-place g l = length l.pollers.items ≡ l.place

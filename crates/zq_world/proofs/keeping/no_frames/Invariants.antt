use Rattle.std.proofs.Common.{length, ◌≡◌}
use Rattle.zq_world.proofs.keeping.no_frames.Given as goal

abbrev pub invariant-loop-place : goal.invariant-loop-place
invariant-loop-place l = length l.frames.items ≡ l._place

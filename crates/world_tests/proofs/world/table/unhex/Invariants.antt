use Rattle.std.proofs.Common.{length}
use Rattle.world_tests.proofs.world.table.unhex.Given as goal

abbrev pub decreases-loop-rest : goal.decreases-loop-rest
decreases-loop-rest l = length l.rest

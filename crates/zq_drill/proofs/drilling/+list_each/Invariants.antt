use Rattle.std.proofs.Common.{length}
use Rattle.zq_drill.proofs.drilling.+list_each.Given as goal

abbrev pub decreases-list_each : goal.decreases-list_each
decreases-list_each g l = length l.handles.now

use Rattle.std.proofs.Common.{length}
use Rattle.zq_drill.proofs.report.+are_alike.Given as goal

abbrev pub decreases-are_alike : goal.decreases-are_alike
decreases-are_alike l = length l.lists.now

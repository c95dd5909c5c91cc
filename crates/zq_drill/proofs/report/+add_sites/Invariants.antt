use Rattle.std.proofs.Common.{length}
use Rattle.zq_drill.proofs.report.+add_sites.Given as goal

abbrev pub decreases-add_sites : goal.decreases-add_sites
decreases-add_sites l = length l.lists.now

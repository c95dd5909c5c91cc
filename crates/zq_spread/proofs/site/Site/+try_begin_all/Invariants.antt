use Rattle.std.proofs.Common.{length}
use Rattle.zq_spread.proofs.site.Site.+try_begin_all.Given as goal

abbrev pub decreases-try_begin_all : goal.decreases-try_begin_all
decreases-try_begin_all l = length l.heaps.now

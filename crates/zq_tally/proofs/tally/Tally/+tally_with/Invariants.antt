use Rattle.std.proofs.Common.{length}
use Rattle.zq_tally.proofs.tally.Tally.+tally_with.Given as goal

abbrev pub decreases-tally_with : goal.decreases-tally_with
decreases-tally_with l = length l.others.now

use Rattle.std.proofs.Common.{arith}
use Rattle.zq_dots.proofs.Counters.{sites_is}
use Rattle.zq_entry.proofs.SumLemmas.{sums-length}
use Rattle.zq_merge.proofs.write.write_sums.Goals as goal

pub overflow_cast-sums : goal.overflow_cast-sums
overflow_cast-sums c = let few = sums-length c.args.sums.now c.requires in record { fits = omega (arith, sites_is) }

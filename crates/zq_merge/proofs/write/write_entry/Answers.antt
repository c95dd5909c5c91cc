use Rattle.std.proofs.Common.{arith, length, ◌≡◌}
use Rattle.zq_dots.proofs.Counters.{sites_is}
use Rattle.zq_model.specs.Rows.{additions_from}
use Rattle.zq_merge.proofs.write.write_entry.Goals as goal

pub overflow_cast-len : goal.overflow_cast-len
overflow_cast-len c =
    let size : c.len.result ≡ length (additions_from 0 c.args.entry.now) = c.len.ensures in
    record { fits = omega (arith, sites_is) }

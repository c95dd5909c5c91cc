use Rattle.std.proofs.Common.{◌≤◌}
use Rattle.zq_wal_file.proofs.grown.write_zeros.Given as goal

abbrev pub invariant-loop : goal.invariant-loop
invariant-loop l = l.fn.from ≤ l.end

use Rattle.std.proofs.Common.{drop, ◌≡◌}
use Rattle.zq_journal.specs.Records.{bytes_kept_in}
use Rattle.zq_journal.proofs.cutting.lighten.Given as goal

abbrev pub invariant-loop-place : goal.invariant-loop-place
invariant-loop-place l = l.bytes ≡ bytes_kept_in (drop l.place l.tail.items)

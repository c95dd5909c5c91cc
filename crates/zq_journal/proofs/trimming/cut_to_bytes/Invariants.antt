use Rattle.std.proofs.Common.{drop, ◌+◌, ◌≡◌}
use Rattle.zq_journal.specs.Records.{bytes_kept_in, cut_kept}
use Rattle.zq_journal.proofs.trimming.cut_to_bytes.Given as goal

abbrev pub invariant-loop-place : goal.invariant-loop-place
invariant-loop-place l = record {
  left : l.left ≡ bytes_kept_in (drop l.place l.tail.items);
  cut : cut_kept l.most l.tail.items ≡ l.place + cut_kept l.most (drop l.place l.tail.items);
}

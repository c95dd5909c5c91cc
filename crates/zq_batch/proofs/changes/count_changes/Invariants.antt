use Rattle.std.proofs.Common.{get_or, ℕ, ◌<◌, ◌≡◌, ◌≤◌}
use Rattle.zq_batch.specs.Spelling.{moved}
use Rattle.zq_batch.proofs.changes.count_changes.Given as goal

abbrev pub invariant-loop-number : goal.invariant-loop-number
invariant-loop-number l = record {
  count : l.count ≡ moved l.number 0 l.base.known l.seen;
  few : l.count ≤ l.number;
  rises : (t : ℕ) → t < l.number → get_or l.base.known t 0 ≤ get_or l.seen t 0;
}

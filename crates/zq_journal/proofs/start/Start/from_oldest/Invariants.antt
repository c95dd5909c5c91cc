use Rattle.std.proofs.Common.{take, true, ℕ, ◌≡◌}
use Rattle.zq_journal.specs.Records.{vector_over}
use Rattle.zq_model.specs.Sets.{covers}
use Rattle.zq_journal.proofs.start.Start.from_oldest.Given as goal

abbrev pub invariant-loop-place : goal.invariant-loop-place
invariant-loop-place l = record {
  seen : (h K : ℕ) → l.seen ≡ vector_over h K l.base (take l.place l.tail.items);
  covered : covers l.vector l.base ≡ true → covers l.vector l.seen ≡ true;
}

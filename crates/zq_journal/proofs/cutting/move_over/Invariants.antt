use Rattle.std.proofs.Common.{take, ℕ, ◌≡◌}
use Rattle.zq_journal.specs.Records.{vector_over}
use Rattle.zq_journal.proofs.cutting.move_over.Given as goal

abbrev pub invariant-loop-place : goal.invariant-loop-place
invariant-loop-place l = (h K : ℕ) → l.vector ≡ vector_over h K l.initial.vector (take l.place l.tail.items)

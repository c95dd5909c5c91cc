use Rattle.std.proofs.Common.{drop, length, true, ℕ, ◌-◌, ◌≡◌}
use Rattle.zq_journal.specs.Records.{AreCounted, vector_under}
use Rattle.zq_model.specs.Sets.{covers}
use Rattle.zq_journal.proofs.start.Start.from_newest.Given as goal

abbrev pub invariant-loop-newer : goal.invariant-loop-newer
invariant-loop-newer l = record {
  seen : (h K : ℕ) → l.seen ≡ vector_under h K l.last (drop (length l.tail.items - l.newer) l.tail.items);
  uncovered : (h K : ℕ) → AreCounted h K l.last l.tail.items → covers l.vector l.seen ≡ true → ⊥;
}

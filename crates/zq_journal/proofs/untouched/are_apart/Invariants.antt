use Rattle.std.proofs.Common.{drop, ◌≡◌}
use Rattle.zq_journal.proofs.Apart.{are_apart}
use Rattle.zq_journal.specs.Untouched.{keys_of}
use Rattle.zq_journal.proofs.untouched.are_apart.Given as goal

abbrev pub invariant-loop-place : goal.invariant-loop-place
invariant-loop-place l =
    are_apart l.vector (keys_of l.keys) (drop l.place l.tail.items) ≡ are_apart l.vector (keys_of l.keys) (drop l.start l.tail.items)

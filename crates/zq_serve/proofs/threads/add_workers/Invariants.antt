use Rattle.std.proofs.Common.{length, ◌≡◌}
use Rattle.zq_serve.proofs.ThreadLists.{AreComing}
use Rattle.zq_serve.proofs.threads.add_workers.Given as goal

abbrev pub invariant-loop-own : goal.invariant-loop-own
invariant-loop-own l = AreComing l.initial.workers.items l.initial.own-iterator.s.now l.workers.items l.own-iterator.s.now
    × (length l.pollers.s.now ≡ length l.own-iterator.s.now)

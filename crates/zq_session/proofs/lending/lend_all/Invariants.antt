use Rattle.std.proofs.Common.{All}
use Rattle.zq_session.proofs.MadeAndLent.{AreBeingLent}
use Rattle.zq_session.proofs.lending.lend_all.Given as goal
use Rattle.zq_session.specs.LentSites.{AreOwn}

abbrev pub invariant-loop-one : goal.invariant-loop-one
invariant-loop-one l = All AreOwn l.one-iterator.s.now × AreBeingLent l.initial.one-iterator.s.now l.lent.items l.one-iterator.s.now

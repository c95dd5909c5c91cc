use Rattle.std.proofs.Common.{refl}
use Rattle.zq_replica.proofs.replica.Replica.begin.Goals as goal

pub returns-in-Some-clause-begun : goal.returns-in-Some-clause-begun
returns-in-Some-clause-begun c = λ yes. (
  c.in-Some.gathering,
  refl,
  c.in-Some.ensures.from,
  c.in-Some.ensures.begun.0,
  c.in-Some.ensures.begun.1,
)

use Rattle.std.proofs.Common.{ap, arith, length}
use Rattle.zq_backlog.proofs.Kept.{count_small}
use Rattle.zq_backlog.specs.Log.{Log}
use Rattle.zq_backlog.proofs.backlog.Backlog.end.Goals as goal

pub overflow_add-result : goal.overflow_add-result
overflow_add-result c = omega (arith, count_small c.self.inside c.self.invariant, c.len.ensures, ap (λ (l : Log). length l.ops) c.self.view_is)

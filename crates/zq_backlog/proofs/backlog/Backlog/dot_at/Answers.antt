use Rattle.std.proofs.Common.{ap, arith, length}
use Rattle.zq_backlog.proofs.Kept.{dot_bounded}
use Rattle.zq_backlog.specs.Log.{Log}
use Rattle.zq_backlog.proofs.backlog.Backlog.dot_at.Goals as goal

pub returns-clause-bounded : goal.returns-clause-bounded
returns-clause-bounded c =
    dot_bounded c.self.inside c.args.number c.index.result.now c.self.invariant (omega (arith, c.requires, ap (λ (l : Log). length l.ops) c.self.view_is)) c.index.ensures

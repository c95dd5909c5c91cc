use Rattle.std.proofs.Common.{Some, refl}
use Rattle.zq_inspect.proofs.Recalling.{recalled}
use Rattle.zq_inspect.proofs.recall.Recall.take.Goals as goal

pub returns-clause-taken : goal.returns-clause-taken
returns-clause-taken c =
    recalled c.replay-taken.result c.args.self.now.reader (Some c.replay-taken.new.self)
    c.args.payload.now c.in-Ok.reader c.replay-taken.new.self c.in-Ok.ensures.first
    c.in-Ok.ensures.later refl c.replay-taken.ensures.replayed

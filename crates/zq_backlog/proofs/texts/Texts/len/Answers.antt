use Rattle.std.proofs.Common.{ap, arith, length, ◌≡◌}
use Rattle.zq_backlog.proofs.Chunked.{count_is}
use Rattle.zq_backlog.specs.TextsView.{texts_of}
use Rattle.zq_backlog.proofs.texts.Texts.len.Goals as goal

pub returns-clause-len : goal.returns-clause-len
returns-clause-len c =
    let same : length (texts_of c.self.inside) ≡ length c.args.self.now = ap length c.self.view_is in
    omega (arith, count_is c.self.inside c.self.invariant, c.end.ensures, same)

use Rattle.std.specs.Io.KnownBytes.{Appends}
use Rattle.zq_serve.proofs.announcing.announce.Given as goal
use Rattle.zq_serve.specs.Announced.{lines_before}

abbrev pub invariant-loop-site : goal.invariant-loop-site
invariant-loop-site g l = Appends (g.W.Write.contents l.initial.out) (g.W.Write.contents l.out) (lines_before l.ports l.site)

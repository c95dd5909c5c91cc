use Rattle.std.proofs.Common.{map}
use Rattle.zq_site.proofs.reading.hear_all.Given as goal
use Rattle.zq_site.specs.Heard.{AreHeard}

abbrev pub invariant-loop-frame : goal.invariant-loop-frame
invariant-loop-frame g l = AreHeard g.H.Hear.hears l.initial.ear l.ear (map (λ frame. frame.items) l.yielded)

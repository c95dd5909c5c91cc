use Rattle.std.proofs.Common.{map}
use Rattle.zq_peers.specs.Carried.{AreCarried}
use Rattle.zq_peers.specs.Lossy.{each_to}
use Rattle.zq_peers.proofs.lossy.carry_all.Given as goal

abbrev pub invariant-loop-frame : goal.invariant-loop-frame
invariant-loop-frame g l = AreCarried g.C.Carry.carries l.initial.carrier l.carrier (each_to l.to (map (λ frame. frame.items) l.yielded)) l.whole

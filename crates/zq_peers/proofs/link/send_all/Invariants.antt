use Rattle.std.proofs.Common.{map, take}
use Rattle.zq_links.specs.Frame.{frame_of}
use Rattle.zq_peers.specs.Carried.{AreCarried}
use Rattle.zq_peers.proofs.link.send_all.Given as goal

abbrev pub invariant-loop-frame : goal.invariant-loop-frame
invariant-loop-frame g l = AreCarried g.S.Sends.sends l.initial.sender l.sender (map (λ f. (l.to, frame_of f)) (take l.frame-index l.frames)) l.whole

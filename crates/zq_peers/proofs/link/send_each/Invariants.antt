use Rattle.std.proofs.Common.{take}
use Rattle.zq_node.specs.Hearing.{sent_of}
use Rattle.zq_peers.specs.Carried.{AreCarried}
use Rattle.zq_peers.proofs.link.send_each.Given as goal

abbrev pub invariant-loop-to : goal.invariant-loop-to
invariant-loop-to g l = AreCarried g.S.Sends.sends l.initial.sender l.sender (sent_of (take l.to-index l.parcels)) l.whole

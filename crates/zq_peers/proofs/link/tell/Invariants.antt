use Rattle.std.proofs.Common.{map, take}
use Rattle.zq_links.specs.Frame.{frame_of}
use Rattle.zq_peers.specs.Carried.{AreCarried}
use Rattle.zq_peers.specs.Moves.{sent_to_each}
use Rattle.zq_peers.proofs.link.tell.Given as goal

abbrev pub invariant-loop-to : goal.invariant-loop-to
invariant-loop-to g l = AreCarried g.S.Sends.sends l.initial.sender l.sender (sent_to_each (take l.to-index l.others) (map frame_of l.frames.items)) l.whole

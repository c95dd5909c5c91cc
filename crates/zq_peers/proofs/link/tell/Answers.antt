use Rattle.std.proofs.Common.{map, subst}
use Rattle.zq_links.specs.Frame.{frame_of}
use Rattle.zq_node.specs.Hearing.{sent_to}
use Rattle.zq_peers.proofs.Carried.{sent_more}
use Rattle.zq_peers.specs.Carried.{AreCarried}
use Rattle.zq_peers.proofs.link.tell.Goals as goal

pub loop-to-preserved : goal.loop-to-preserved
loop-to-preserved g c =
    let frames = map frame_of c.in_ok-frames.frames.items in
    let sent = subst (λ fs. AreCarried g.S.Sends.sends c.loop-to.sender c.send_all-sent.new.sender (sent_to c.to-item.result (map frame_of fs)) c.send_all-sent.result) c.deref.ensures.value c.send_all-sent.ensures in
    sent_more g.S.Sends.sends (λ to. sent_to to frames) c.args.sender.now c.loop-to.sender c.send_all-sent.new.sender c.args.others.now c.loop-to.to-index c.to-item.result c.loop-to.whole c.send_all-sent.result c.both-whole.result c.both-whole.ensures c.loop-to-test.true c.to-item.is c.loop-to.invariant sent

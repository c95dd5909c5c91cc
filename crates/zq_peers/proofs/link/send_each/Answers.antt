use Rattle.zq_links.specs.Frame.{frame_of}
use Rattle.zq_peers.proofs.Carried.{sent_next}
use Rattle.zq_peers.proofs.link.send_each.Goals as goal

pub loop-to-preserved : goal.loop-to-preserved
loop-to-preserved g c =
    sent_next g.S.Sends.sends (λ s. s.0) (λ s. frame_of s.1) c.args.sender.now c.loop-to.sender c.send-sent.new.self c.args.parcels.now c.loop-to.to-index c.loop-to-item.result c.loop-to.whole c.send-sent.result c.both-whole.result c.both-whole.ensures c.loop-to-test.true c.loop-to-item.is c.loop-to.invariant c.send-sent.ensures

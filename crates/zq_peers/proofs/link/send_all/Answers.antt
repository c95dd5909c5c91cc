use Rattle.std.proofs.Common.{ap, subst, ◌∙◌, map}
use Rattle.std.proofs.lemmas.List.{take_all}
use Rattle.zq_links.specs.Frame.{frame_of}
use Rattle.zq_peers.proofs.Carried.{sent_next, to_one}
use Rattle.zq_peers.specs.Carried.{AreCarried}
use Rattle.zq_peers.proofs.link.send_all.Goals as goal

pub loop-frame-preserved : goal.loop-frame-preserved
loop-frame-preserved g c =
    sent_next g.S.Sends.sends (λ f. c.args.to) frame_of c.args.sender.now c.loop-frame.sender c.send-sent.new.self c.args.frames.now c.loop-frame.frame-index c.frame-item.result c.loop-frame.whole c.send-sent.result c.both-whole.result c.both-whole.ensures c.loop-frame-test.true c.frame-item.is c.loop-frame.invariant c.send-sent.ensures

pub returns : goal.returns
returns g c =
    let all = ap (map (λ f. (c.args.to, frame_of f))) (take_all c.loop-frame.frame-index c.args.frames.now c.loop-frame-test.false) ∙ to_one c.args.to c.args.frames.now in
    subst (λ l. AreCarried g.S.Sends.sends c.args.sender.now c.loop-frame.sender l c.loop-frame.whole) all c.loop-frame.invariant

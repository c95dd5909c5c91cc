use Rattle.std.proofs.Common.{arith, length, subst, ◌≡◌, ◌∙◌}
use Rattle.zq_drill.proofs.Meetings.{sender_next}
use Rattle.zq_drill.proofs.exchange.gather.Goals as goal
use Rattle.zq_drill.specs.Meetings.{AreMeetings, to_one}
use Rattle.zq_drill.specs.SiteHandles.{places_of}

pub loop-sender-preserved : goal.loop-sender-preserved
loop-sender-preserved g c =
    let inv = c.loop-sender.invariant in
    (c.meet.ensures.len ∙ inv.0, sender_next c.args.receiver c.loop-sender.sender (places_of c.args.handles.now) (places_of c.loop-sender.handles) (places_of c.meet.new.handles) inv.1 c.in_ok-meet.ensures.met)

pub returns-clause-gathered : goal.returns-clause-gathered
returns-clause-gathered g c =
    let all : c.loop-sender.sender ≡ length c.args.handles.now = omega (arith, c.loop-sender.auto.sender-end, c.loop-sender-test.false) in
    subst (λ n. AreMeetings (to_one c.args.receiver n) (places_of c.args.handles.now) (places_of c.loop-sender.handles)) all c.loop-sender.invariant.1

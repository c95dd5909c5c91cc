use Rattle.std.proofs.Common.{arith, subst, ◌≡◌, ◌∙◌}
use Rattle.zq_drill.proofs.Nexts.{handed_next}
use Rattle.zq_drill.proofs.SiteShares.{same_site}
use Rattle.zq_drill.proofs.exchange.hand_all.Goals as goal
use Rattle.zq_drill.specs.Meetings.{AreHandedOver, IsHandedOver}
use Rattle.zq_drill.specs.SiteHandles.{site_of}

pub loop-heap-preserved : goal.loop-heap-preserved
loop-heap-preserved g c =
    let inv = c.loop-heap.invariant in
    let sender = c.loop-heap.sender in
    let receiver = c.loop-heap.receiver in
    let from_sender = subst (λ site. IsHandedOver site (site_of receiver) c.loop-heap.heap sender.pass c.hand_over.new.sender.pass receiver.pass c.hand_over.new.receiver.pass) (same_site sender c.args.sender.now inv.0) c.in_ok-hand_over.ensures.handed in
    let to_receiver = subst (λ site. IsHandedOver (site_of c.args.sender.now) site c.loop-heap.heap sender.pass c.hand_over.new.sender.pass receiver.pass c.hand_over.new.receiver.pass) (same_site receiver c.args.receiver.now inv.1) from_sender in
    (c.hand_over.ensures.sender ∙ inv.0, c.hand_over.ensures.receiver ∙ inv.1, handed_next (site_of c.args.sender.now) (site_of c.args.receiver.now) c.loop-heap.heap c.args.sender.now.pass sender.pass c.hand_over.new.sender.pass c.args.receiver.now.pass receiver.pass c.hand_over.new.receiver.pass inv.2 to_receiver)

pub returns-clause-handed : goal.returns-clause-handed
returns-clause-handed g c =
    let sender = c.args.sender.now in
    let receiver = c.args.receiver.now in
    let all : c.loop-heap.heap ≡ 4 = omega (arith, c.loop-heap.auto.heap-end, c.loop-heap-test.false) in
    subst (λ h. AreHandedOver (site_of sender) (site_of receiver) h sender.pass c.loop-heap.sender.pass receiver.pass c.loop-heap.receiver.pass) all c.loop-heap.invariant.2

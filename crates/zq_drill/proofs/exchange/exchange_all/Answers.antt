use Rattle.std.proofs.Common.{arith, length, subst, ◌≡◌, ◌∙◌}
use Rattle.zq_drill.proofs.Meetings.{receiver_next}
use Rattle.zq_drill.proofs.exchange.exchange_all.Goals as goal
use Rattle.zq_drill.specs.Meetings.{AreMeetings, to_each, to_one}
use Rattle.zq_drill.specs.SiteHandles.{places_of}

pub loop-receiver-preserved : goal.loop-receiver-preserved
loop-receiver-preserved g c =
    let inv = c.loop-receiver.invariant in
    let mid = places_of c.loop-receiver.handles in
    let after = places_of c.gather.new.handles in
    let gathered = subst (λ n. AreMeetings (to_one c.loop-receiver.receiver n) mid after) inv.0 c.in_ok-gather.ensures.gathered in
    (c.gather.ensures.len ∙ inv.0, receiver_next (length c.args.handles.now) c.loop-receiver.receiver (places_of c.args.handles.now) mid after inv.1 gathered)

pub returns-clause-exchanged : goal.returns-clause-exchanged
returns-clause-exchanged g c =
    let handles = c.args.handles.now in
    let all : c.loop-receiver.receiver ≡ length handles = omega (arith, c.loop-receiver.auto.receiver-end, c.loop-receiver-test.false) in
    subst (λ n. AreMeetings (to_each (length handles) n) (places_of handles) (places_of c.loop-receiver.handles)) all c.loop-receiver.invariant.1

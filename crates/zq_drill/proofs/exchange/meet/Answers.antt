use Rattle.std.proofs.Common.{ap, arith, length, ◌<◌, ◌≢◌}
use Rattle.std.proofs.lemmas.Result.{on_ok_weaker}
use Rattle.std.specs.Prelude.{slice_index_or, slice_set, ◌++◌}
use Rattle.zq_drill.proofs.Meetings.{one_meeting}
use Rattle.zq_drill.proofs.Places.{meets_falling, meets_rising}
use Rattle.zq_drill.proofs.exchange.meet.Goals as goal
use Rattle.zq_drill.specs.SiteHandles.{places_of}
use Rattle.zq_drill.specs.declared.site_handle.SiteHandle.{SiteHandle}

pub returns-then-sender-receiver-clause-met : goal.returns-then-sender-receiver-clause-met
returns-then-sender-receiver-clause-met g c =
    let receiver = c.args.receiver in
    let sender = c.args.sender in
    let handles = c.args.handles.now in
    let cut = c.split_at_mut-before in
    let front = cut.result.0.now in
    let back = cut.result.1.now in
    let hand = c.hand_all in
    let at_sender = λ (handle : SiteHandle). slice_index_or front sender handle in
    let at_receiver = λ (handle : SiteHandle). slice_index_or back 0 handle in
    let below : sender < receiver = c.if-sender-receiver.true in
    let apart : sender ≢ receiver = λ same. absurd (omega (arith, below, same)) in
    let some : 0 < length back = omega (arith, cut.ensures.back_len, c.requires.receiver) in
    on_ok_weaker hand.result
    (λ handed. one_meeting receiver sender (places_of handles) (places_of (slice_set front sender hand.new.sender ++ slice_set back 0 hand.new.receiver)) apart
    (meets_rising handles front back receiver sender (at_sender c.index-before-sender.result) (at_receiver c.index-after-0.result) hand.new.sender hand.new.receiver
    cut.ensures.value cut.ensures.front_len below some (ap at_sender c.index-before-sender.is) (ap at_receiver c.index-after-0.is) hand.ensures.sender hand.ensures.receiver handed))
    hand.ensures.handed

pub returns-then-receiver-sender-clause-met : goal.returns-then-receiver-sender-clause-met
returns-then-receiver-sender-clause-met g c =
    let receiver = c.args.receiver in
    let sender = c.args.sender in
    let handles = c.args.handles.now in
    let cut = c.split_at_mut-before-then-receiver-sender in
    let front = cut.result.0.now in
    let back = cut.result.1.now in
    let hand = c.hand_all-then-receiver-sender in
    let at_sender = λ (handle : SiteHandle). slice_index_or back 0 handle in
    let at_receiver = λ (handle : SiteHandle). slice_index_or front receiver handle in
    let below : receiver < sender = c.if-receiver-sender.true in
    let apart : sender ≢ receiver = λ same. absurd (omega (arith, below, same)) in
    let some : 0 < length back = omega (arith, cut.ensures.back_len, c.requires.sender) in
    on_ok_weaker hand.result
    (λ handed. one_meeting receiver sender (places_of handles) (places_of (slice_set front receiver hand.new.receiver ++ slice_set back 0 hand.new.sender)) apart
    (meets_falling handles front back receiver sender (at_sender c.index-after-0-then-receiver-sender.result) (at_receiver c.index-before-receiver.result) hand.new.sender hand.new.receiver
    cut.ensures.value cut.ensures.front_len below some (ap at_sender c.index-after-0-then-receiver-sender.is) (ap at_receiver c.index-before-receiver.is) hand.ensures.sender hand.ensures.receiver handed))
    hand.ensures.handed

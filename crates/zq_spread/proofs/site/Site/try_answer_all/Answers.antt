use Rattle.std.proofs.Common.{[], ap, arith, inl, inr, length, subst, sym, true, ◌∙◌}
use Rattle.std.proofs.lemmas.List.FromFn.{length-range_with_len}
use Rattle.std.specs.List.{range_with_len}
use Rattle.zq_spread.proofs.Called.{heaps_all, homes_all}
use Rattle.zq_spread.proofs.site.Site.try_answer_all.Goals as goal
use Rattle.zq_resp.specs.Reply.{reply_bytes}
use Rattle.zq_spread.specs.Calls.{heaps_of}
use Rattle.zq_spread.specs.Dispatch.{HasHeldEach, IsCommand}
use Rattle.zq_spread.specs.Several.{AreBooksAt, AreHeapsOf}
use Rattle.zq_spread.specs.Worn.{HasFoundBusy, HasFoundLast, IsStopOf}

pub try_call_in-requires-clause-heaps : goal.try_call_in-requires-clause-heaps
try_call_in-requires-clause-heaps c =
    let site = c.args.self.now in
    let all = c.every-heaps.ensures ∙ ap (range_with_len 0) (c.len.ensures ∙ c.args.self.now.slots.ok.0) in
    subst (AreHeapsOf site) (sym all) (heaps_all site 0 (heaps_of site) (omega arith))

pub try_call_in-requires-clause-homes : goal.try_call_in-requires-clause-homes
try_call_in-requires-clause-homes c = λ books are.
    let site = c.args.self.now in
    let all = c.every-heaps.ensures ∙ ap (range_with_len 0) (c.len.ensures ∙ c.args.self.now.slots.ok.0) in
    homes_all site books c.args.command.now site.some site.most (subst (λ l. AreBooksAt site l books) all are)

pub try_call_in-requires-clause-room : goal.try_call_in-requires-clause-room
try_call_in-requires-clause-room c =
    let all = ap length (c.every-heaps.ensures ∙ ap (range_with_len 0) (c.len.ensures ∙ c.args.self.now.slots.ok.0)) in
    let long = length-range_with_len 0 (heaps_of c.args.self.now) in
    let room = c.requires.room in
    omega (arith, all, long, room)

pub returns-in-Ok-clause-called : goal.returns-in-Ok-clause-called
returns-in-Ok-clause-called c =
    let site = c.args.self.now in
    let all = c.every-heaps.ensures ∙ ap (range_with_len 0) (c.len.ensures ∙ c.args.self.now.slots.ok.0) in
    let called = c.in-Ok.ensures.called in
    inl (subst (λ l. IsCommand site c.args.command.now (reply_bytes c.in-Ok.reply) c.args.pass.now c.try_call_in.new.pass l × HasHeldEach c.args.pass.now c.try_call_in.new.pass l) all (called.0, called.2))

pub returns-in-Err-Worn-clause-called : goal.returns-in-Err-Worn-clause-called
returns-in-Err-Worn-clause-called c =
    let all = c.every-heaps.ensures ∙ ap (range_with_len 0) (c.len.ensures ∙ c.args.self.now.slots.ok.0) in
    inr (c.worn.ensures.bytes, (c.in-Err-Worn.ensures.stopped, subst (λ l. HasFoundLast c.args.pass.now.stamp l c.try_call_in.new.pass) all (subst (IsStopOf c.args.pass.now.stamp true c.every-heaps.result.now [] c.args.pass.now c.try_call_in.new.pass) c.in-Err-Worn.field-0-is c.in-Err-Worn.ensures.why)))

pub returns-in-Err-Busy-clause-busy : goal.returns-in-Err-Busy-clause-busy
returns-in-Err-Busy-clause-busy c =
    let all = c.every-heaps.ensures ∙ ap (range_with_len 0) (c.len.ensures ∙ c.args.self.now.slots.ok.0) in
    (c.in-Err-Busy.ensures.stopped, subst (λ l. HasFoundBusy l c.try_call_in.new.pass) all (subst (IsStopOf c.args.pass.now.stamp true c.every-heaps.result.now [] c.args.pass.now c.try_call_in.new.pass) c.in-Err-Busy.field-0-is c.in-Err-Busy.ensures.why))

use Rattle.std.proofs.Common.{None, [], ap, arith, false, length, subst, sym, true, ◌∙◌}
use Rattle.std.proofs.lemmas.List.FromFn.{length-range_with_len}
use Rattle.std.specs.List.{range_with_len}
use Rattle.std.specs.Prelude.{map}
use Rattle.zq_commands.specs.Calls.{procedures}
use Rattle.zq_resp.specs.Reply.{reply_bytes}
use Rattle.zq_spread.proofs.Called.{heaps_all, homes_all}
use Rattle.zq_spread.proofs.site.Site.answer_watched.Goals as goal
use Rattle.zq_spread.specs.Calls.{heaps_of}
use Rattle.zq_spread.specs.Watching.{AreWatched, HaveRun, HaveRunIf}
use Rattle.zq_spread.specs.Several.{AreBooksAt, AreHeapsOf}
use Rattle.zq_spread.specs.Worn.{HasFoundLast, IsStopOf}
use Rattle.zq_words.specs.Command.{Zscore}

pub watched_in-requires-clause-heaps : goal.watched_in-requires-clause-heaps
watched_in-requires-clause-heaps g c =
    let site = c.args.self.now in
    let all = c.every-heaps.ensures ∙ ap (range_with_len 0) (c.len.ensures ∙ c.args.self.now.slots.ok.0) in
    subst (AreHeapsOf site) (sym all) (heaps_all site 0 (heaps_of site) (omega arith))

pub watched_in-requires-clause-homes : goal.watched_in-requires-clause-homes
watched_in-requires-clause-homes g c = λ books are key member.
    let site = c.args.self.now in
    let all = c.every-heaps.ensures ∙ ap (range_with_len 0) (c.len.ensures ∙ c.args.self.now.slots.ok.0) in
    homes_all site books (Zscore key member) site.some site.most (subst (λ l. AreBooksAt site l books) all are)

pub watched_in-requires-clause-room : goal.watched_in-requires-clause-room
watched_in-requires-clause-room g c =
    let all = ap length (c.every-heaps.ensures ∙ ap (range_with_len 0) (c.len.ensures ∙ c.args.self.now.slots.ok.0)) in
    let long = length-range_with_len 0 (heaps_of c.args.self.now) in
    let room = c.requires.room in
    omega (arith, all, long, room)

pub returns-in-Ok-true-clause-called : goal.returns-in-Ok-true-clause-called
returns-in-Ok-true-clause-called g c =
    let site = c.args.self.now in
    let all = c.every-heaps.ensures ∙ ap (range_with_len 0) (c.len.ensures ∙ c.args.self.now.slots.ok.0) in
    let over : HaveRunIf true site c.args.watched.now (procedures c.args.calls.now) (map reply_bytes c.args.replies.now.items) (map reply_bytes c.watched_in.new.replies.items) c.args.pass.now c.watched_in.new.pass c.every-heaps.result.now =
    subst (λ b. HaveRunIf b site c.args.watched.now (procedures c.args.calls.now) (map reply_bytes c.args.replies.now.items) (map reply_bytes c.watched_in.new.replies.items) c.args.pass.now c.watched_in.new.pass c.every-heaps.result.now) c.in-Ok-true.field-0-test c.in-Ok-true.ensures.called in
    subst (λ l. HaveRun site c.args.watched.now (procedures c.args.calls.now) (map reply_bytes c.args.replies.now.items) (map reply_bytes c.watched_in.new.replies.items) c.args.pass.now c.watched_in.new.pass l) all over

pub returns-in-Ok-false-clause-touched : goal.returns-in-Ok-false-clause-touched
returns-in-Ok-false-clause-touched g c = λ _.
    let site = c.args.self.now in
    let all = c.every-heaps.ensures ∙ ap (range_with_len 0) (c.len.ensures ∙ c.args.self.now.slots.ok.0) in
    let over : HaveRunIf false site c.args.watched.now (procedures c.args.calls.now) (map reply_bytes c.args.replies.now.items) (map reply_bytes c.watched_in.new.replies.items) c.args.pass.now c.watched_in.new.pass c.every-heaps.result.now =
    subst (λ b. HaveRunIf b site c.args.watched.now (procedures c.args.calls.now) (map reply_bytes c.args.replies.now.items) (map reply_bytes c.watched_in.new.replies.items) c.args.pass.now c.watched_in.new.pass c.every-heaps.result.now) c.in-Ok-false.field-0-test c.in-Ok-false.ensures.called in
    subst (λ l. AreWatched site c.args.watched.now (procedures c.args.calls.now) None c.args.pass.now c.watched_in.new.pass l) all over.1

pub returns-in-Err-Worn-clause-worn : goal.returns-in-Err-Worn-clause-worn
returns-in-Err-Worn-clause-worn g c = λ _.
    let all = c.every-heaps.ensures ∙ ap (range_with_len 0) (c.len.ensures ∙ c.args.self.now.slots.ok.0) in
    (c.in-Err-Worn.ensures.stopped, subst (λ l. HasFoundLast c.args.pass.now.stamp l c.watched_in.new.pass) all (subst (IsStopOf c.args.pass.now.stamp true c.every-heaps.result.now [] c.args.pass.now c.watched_in.new.pass) c.in-Err-Worn.field-0-is c.in-Err-Worn.ensures.why))

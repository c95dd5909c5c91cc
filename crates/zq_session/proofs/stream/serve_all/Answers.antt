use Rattle.std.proofs.Common.{◌≡◌, ◌≤◌, ◌++◌, ◌∷◌, [], Err, length, take, refl, arith}
use Rattle.std.proofs.lemmas.List.{length-take}
use Rattle.std.proofs.lemmas.Result.{err_from_is_err_and}
use Rattle.zq_session.specs.declared.outcome.SessionFault.TheVariants as stop
use Rattle.zq_session.proofs.Conversations.{breaks-in, ends-read, fails-read, reads-end, stops-in, under-way-first, under-way-on}
use Rattle.zq_session.proofs.Talks.{reads-turn, with_turn}
use Rattle.zq_session.proofs.stream.serve_all.Goals as goal

pub loop-read-init : goal.loop-read-init
loop-read-init g c = ([], [], c.new-input.ensures, under-way-first g.E.Ends.does g.A.Answers.answers _ _, refl, search)

pub loop-read-preserved : goal.loop-read-preserved
loop-read-preserved g c =
    let i = c.loop-read.invariant in
    let served = c.in_ok-served.ensures.served i.1 i.2 in
    let piece = take c.in_ok-count.count c.hear.new.buffer in
    let parts = served.1.0 ++ served.1.1 ∷ [] in
    let on = under-way-on g.E.Ends.does g.A.Answers.answers _ _ _ _ _ _ _ i.0 i.1 piece served.0 _ i.3 c.in_ok-count.ensures.1 served.1 (rw c.in-More.is at served.2) in
    (with_turn i.0 piece parts, on.0, on.1, on.2, omega (arith, i.4, reads-turn i.0 piece parts), c.in_ok-served.ensures.none_waits)

pub returns-in_err-count : goal.returns-in_err-count
returns-in_err-count g c =
    let i = c.loop-read.invariant in
    let failed = err_from_is_err_and c.from_residual.result c.from_residual.ensures.1 in
    let why : c.from_residual.result ≡ Err stop.Read = cc (failed.1, failed.2, c.in_err-count.ensures.0) in
    rw why (fails-read g.E.Ends.does g.A.Answers.answers _ _ _ _ _ i.0 i.1 i.3 c.in_err-count.ensures.1)

pub returns-then-count-eq0 : goal.returns-then-count-eq0
returns-then-count-eq0 g c =
    let i = c.loop-read.invariant in
    let none = rw c.if-count-eq0.true at c.in_ok-count.ensures.1 in
    ends-read g.E.Ends.does g.A.Answers.answers _ _ _ _ _ _ i.0 i.1 i.3 none (c.end_of.ensures i.1 i.2)

pub returns-in_err-served : goal.returns-in_err-served
returns-in_err-served g c =
    let i = c.loop-read.invariant in
    let failed = err_from_is_err_and c.from_residual-in_err-served.result c.from_residual-in_err-served.ensures.1 in
    let why : c.from_residual-in_err-served.result ≡ Err c.in_err-served.field-0.0 = cc (failed.1, failed.2) in
    let served = c.in_err-served.ensures.served i.1 i.2 in
    let piece = take c.in_ok-count.count c.hear.new.buffer in
    let small : length piece ≤ 65536 = simp length-take (omega arith) in
    rw why (stops-in g.E.Ends.does g.A.Answers.answers _ _ c.in_err-served.field-0.0 _ _ _ _ _ i.0 i.1 piece served.0 c.write_replies.new.input i.3 c.in_ok-count.ensures.1 served.1 small served.2)

pub returns-in-Broken : goal.returns-in-Broken
returns-in-Broken g c =
    let i = c.loop-read.invariant in
    let served = c.in_ok-served.ensures.served i.1 i.2 in
    let piece = take c.in_ok-count.count c.hear.new.buffer in
    breaks-in g.E.Ends.does g.A.Answers.answers _ _ _ _ _ _ _ i.0 i.1 piece served.0 c.write_replies.new.input i.3 c.in_ok-count.ensures.1 served.1 (rw c.in-Broken.is at served.2)

pub returns : goal.returns
returns g c =
    let i = c.loop-read.invariant in
    reads-end g.E.Ends.does g.A.Answers.answers _ _ _ _ i.0 i.1 i.3 (omega (arith, i.4))

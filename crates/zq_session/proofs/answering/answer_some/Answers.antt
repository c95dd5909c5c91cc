use Rattle.std.proofs.Common.{◌≡◌, ◌∙◌, ◌++◌, ◌∷◌, ◌<◌, Err, List, Ok, [], append-nil, arith, drop, length, refl, subst, sym, take, ℕ}
use Rattle.std.proofs.Math.Seq.{take-add}
use Rattle.std.proofs.lemmas.List.{length-drop, take_rest}
use Rattle.std.proofs.lemmas.Result.{err_from_is_err_and}
use Rattle.zq_resp.specs.Stream.{Feeds, listed}
use Rattle.zq_session.proofs.AnsweredPart.{end-lacks, few-first, one-none, put-longer, put-on, some-breaks, some-cut, some-stops}
use Rattle.zq_session.proofs.Runs.{answered-none}
use Rattle.zq_session.proofs.Served.{piece-begins, piece-more, piece-then}
use Rattle.zq_session.specs.Answering.{IsOneMore}
use Rattle.zq_session.specs.Session.{IsAnswered, closing}
use Rattle.zq_session.specs.declared.outcome.SessionFault.TheVariants as stop
use Rattle.zq_session.specs.declared.serving.Served.TheVariants.{More}
use Rattle.zq_session.proofs.answering.answer_some.Goals.{in-Some+in_ok-answer_into-in-Ok, in_default}
use Rattle.zq_session.proofs.answering.answer_some.Goals as goal

pub loop-at-init : goal.loop-at-init
loop-at-init g c = record {
  within = omega arith;
  grows = omega arith;
  begun = λ none. refl;
  few = few-first c.args.most c.args.out.now.items;
  served = λ had is. ([], rw is (piece-begins g.A.Answers.answers _ had (c.inside-inside.ensures.unfinished had is)), sym (append-nil _));
}

pub returns-in_err-answer_into-in-Ok-clause-answers : goal.returns-in_err-answer_into-in-Ok-clause-answers
returns-in_err-answer_into-in-Ok-clause-answers g c = λ had is.
    let failed = err_from_is_err_and c.from_residual.result c.from_residual.ensures.1 in
    let stop = c.in_err-answer_into-in-Ok.field-0.0 in
    let why : c.from_residual.result ≡ Err stop = cc (failed.1, failed.2) in
    let served = c.loop-at.invariant.served had is in
    let one = c.in_err-answer_into-in-Ok.ensures.answered in
    let fed = rw (take_rest c.args.piece.now c.loop-at.at, c.in-Some.is) at c.in-Ok.ensures.fed in
    rw why (
      served.0 ++ one.0,
      some-cut g.A.Answers.answers _ _ _ had c.args.piece.now served.0 one.0 c.loop-at.at c.in-Ok.taken (c.in-Some.request ∷ []) c.loop-at.input c.next_request.new.self c.next_request.new.self stop served.1 fed one.1,
      put-on c.args.out.now.items c.loop-at.out.items c.answer_into.new.out.items served.0 one.0 served.2 one.2,
    )

pub loop-at-preserved : goal.loop-at-preserved
loop-at-preserved g c =
    let one : (bytes : List ℕ) × IsAnswered g.A.Answers.answers c.loop-at.answerer c.match-found.answerer (listed c.in-Ok.found) bytes × (c.match-found.out.items ≡ c.loop-at.out.items ++ bytes) = elim c.match-found.branch [
      | in-Some+in_ok-answer_into-in-Ok w ↦ rw (w.in-Some.is, w.answerer-is, w.out-is) w.in_ok-answer_into-in-Ok.ensures.answered
      | in_default w ↦ rw (w.in_default.is, w.answerer-is, w.out-is) ([], answered-none g.A.Answers.answers _, sym (append-nil _))
    ] in
    let more : IsOneMore c.loop-at.out.items c.match-found.out.items = elim c.match-found.branch [
      | in-Some+in_ok-answer_into-in-Ok w ↦ rw w.out-is w.in_ok-answer_into-in-Ok.ensures.one
      | in_default w ↦ rw w.out-is (one-none c.loop-at.out.items)
    ] in
    let kept : c.match-found.input ≡ c.next_request.new.self = elim c.match-found.branch [
      | in-Some+in_ok-answer_into-in-Ok w ↦ w.input-is ∙ w.give_back.ensures
      | in_default w ↦ w.input-is
    ] in
    let size : c.len.result ≡ length c.loop-at.out.items = c.len.ensures ∙ c.loop-at.out.ok.0 in
    let below : length c.loop-at.out.items < c.args.most = omega (arith, size, c.if-len-most.true) in
    let some : 0 < c.in-Ok.taken = c.in-Ok.ensures.some (rw (take_rest c.args.piece.now c.loop-at.at) (omega (arith, c.loop-at-test.true, length-drop c.loop-at.at c.args.piece.now))) in
    record {
      within = omega (arith, c.in-Ok.ensures.within, length-drop c.loop-at.at c.args.piece.now, c.loop-at.invariant.within);
      grows = omega (arith, c.loop-at.invariant.grows, put-longer c.loop-at.out.items c.match-found.out.items one.0 one.2);
      begun = λ none. absurd (omega (arith, none, some));
      few = λ room. (c.loop-at.out.items, below, more);
      served = λ had is.
          let served = c.loop-at.invariant.served had is in
          let next = take c.in-Ok.taken (drop c.loop-at.at c.args.piece.now) in
          let fed = subst (λ input. Feeds c.loop-at.input next (Ok (listed c.in-Ok.found)) input) (sym kept) (rw (take_rest c.args.piece.now c.loop-at.at) at c.in-Ok.ensures.fed) in (
            served.0 ++ one.0,
            rw (take-add c.loop-at.at c.in-Ok.taken c.args.piece.now)
                (piece-then g.A.Answers.answers _ _ _ had (take c.loop-at.at c.args.piece.now) next served.0 one.0 _ _ (Ok More) served.1
                (λ has same. piece-more g.A.Answers.answers _ _ has next one.0 (listed c.in-Ok.found) c.loop-at.input c.match-found.input same fed one.1)),
            put-on c.args.out.now.items c.loop-at.out.items c.match-found.out.items served.0 one.0 served.2 one.2,
          );
    }

pub returns-in_err-served-in-Err-clause-answers : goal.returns-in_err-served-in-Err-clause-answers
returns-in_err-served-in-Err-clause-answers g c = λ had is.
    let failed = err_from_is_err_and c.from_residual-in_err-served-in-Err.result c.from_residual-in_err-served-in-Err.ensures.1 in
    let why : c.from_residual-in_err-served-in-Err.result ≡ Err stop.NoMemory = cc (failed.1, failed.2, c.in_err-served-in-Err.ensures.ended.0) in
    let served = c.loop-at.invariant.served had is in
    let fed = rw (take_rest c.args.piece.now c.loop-at.at) at c.in-Err.ensures.fault in
    rw why (
      served.0 ++ [],
      some-stops g.A.Answers.answers _ _ had c.args.piece.now served.0 c.loop-at.at c.loop-at.input c.next_request.new.self c.in-Err.fault served.1 fed,
      put-on c.args.out.now.items c.loop-at.out.items c.end.new.out.items served.0 [] served.2 (c.in_err-served-in-Err.ensures.ended.1 ∙ sym (append-nil _)),
    )

pub returns-in-Err-clause-answers : goal.returns-in-Err-clause-answers
returns-in-Err-clause-answers g c = λ had is.
    let served = c.loop-at.invariant.served had is in
    let ended = c.in_ok-served-in-Err.ensures.ended in
    let fed = rw (take_rest c.args.piece.now c.loop-at.at) at c.in-Err.ensures.fault in
    rw ended.1 (
      served.0 ++ closing,
      some-breaks g.A.Answers.answers _ _ had c.args.piece.now served.0 c.loop-at.at c.loop-at.input c.next_request.new.self c.in-Err.fault served.1 fed ended.0,
      put-on c.args.out.now.items c.loop-at.out.items c.end.new.out.items served.0 closing served.2 ended.2,
    )

pub returns-in_err-answer_into-in-Ok-clause-grows : goal.returns-in_err-answer_into-in-Ok-clause-grows
returns-in_err-answer_into-in-Ok-clause-grows g c =
    let one = c.in_err-answer_into-in-Ok.ensures.answered in
    omega (arith, c.loop-at.invariant.grows, put-longer c.loop-at.out.items c.answer_into.new.out.items one.0 one.2)

pub returns-in_err-served-in-Err-clause-grows : goal.returns-in_err-served-in-Err-clause-grows
returns-in_err-served-in-Err-clause-grows g c = rw c.in_err-served-in-Err.ensures.ended.1 c.loop-at.invariant.grows

pub returns-in-Err-clause-grows : goal.returns-in-Err-clause-grows
returns-in-Err-clause-grows g c =
    omega (arith, c.loop-at.invariant.grows, put-longer c.loop-at.out.items c.end.new.out.items closing c.in_ok-served-in-Err.ensures.ended.2)

pub returns-in_err-served-in-Err-clause-full : goal.returns-in_err-served-in-Err-clause-full
returns-in_err-served-in-Err-clause-full g c = λ had is.
    let failed = err_from_is_err_and c.from_residual-in_err-served-in-Err.result c.from_residual-in_err-served-in-Err.ensures.1 in
    let why : c.from_residual-in_err-served-in-Err.result ≡ Err stop.NoMemory = cc (failed.1, failed.2, c.in_err-served-in-Err.ensures.ended.0) in
    let served = (c.loop-at.invariant.served had is).1 in
    rw why (end-lacks g.A.Answers.answers _ c.loop-at.out _ served.1 _ c.loop-at.input c.in-Err.fault served.2 c.in-Err.ensures.first c.in_err-served-in-Err.ensures.ended.1 c.in_err-served-in-Err.ensures.full)

use Rattle.std.proofs.Common.{◌≡◌, Err, [], arith}
use Rattle.std.proofs.lemmas.List.{length-drop, take_all, take_rest}
use Rattle.std.proofs.lemmas.Result.{err_from_is_err_and}
use Rattle.zq_session.proofs.GatheredBytes.{gathers-none}
use Rattle.zq_session.proofs.Served.{piece-begins}
use Rattle.zq_session.proofs.Turns.{turn-breaks, turn-cut, turn-on, turn-stops}
use Rattle.zq_session.specs.Gathering.{held}
use Rattle.zq_session.specs.declared.serving.Served.TheVariants.{Broken, More}
use Rattle.zq_session.specs.declared.outcome.SessionFault.TheVariants as stop
use Rattle.zq_session.proofs.serving.serve_piece.Goals as goal

pub loop-at-init : goal.loop-at-init
loop-at-init g c = record {
  within = omega arith;
  few = c.requires.few;
  served = λ had is. ([], rw is (piece-begins g.A.Answers.answers _ had (c.inside-inside.ensures.unfinished had is)), gathers-none g.E.Ends.does _);
}

pub returns-in_err-answered : goal.returns-in_err-answered
returns-in_err-answered g c = λ had is.
    let failed = err_from_is_err_and c.from_residual.result c.from_residual.ensures.1 in
    let stop = c.in_err-answered.field-0.0 in
    let why : c.from_residual.result ≡ Err stop = cc (failed.1, failed.2) in
    let s = c.loop-at.invariant.served had is in
    let b = c.in_err-answered.ensures.answers s.1.1 s.1.2 in
    let begun = held (c.args.reader.now, c.args.writer.now) c.args.out.now.items in
    rw why (turn-stops g.E.Ends.does g.A.Answers.answers _ _ _ begun (c.loop-at.reader, c.loop-at.writer) had c.args.piece.now _ c.loop-at.out.items c.answer_some.new.out.items c.loop-at.at c.loop-at.input c.answer_some.new.input (take_rest c.args.piece.now c.loop-at.at) s stop b)

pub returns-in_err-write_many : goal.returns-in_err-write_many
returns-in_err-write_many g c = λ had is.
    let from = c.from_residual-in_err-write_many in
    let failed = err_from_is_err_and from.result from.ensures.1 in
    let why : from.result ≡ Err stop.Write = cc (failed.1, failed.2, c.in_err-write_many.ensures.0) in
    let s = c.loop-at.invariant.served had is in
    let b = c.in_ok-answered.ensures.answers s.1.1 s.1.2 in
    let answered = c.in_ok-answered.answered in
    let begun = held (c.args.reader.now, c.args.writer.now) c.args.out.now.items in
    let later = held (c.write_many.new.reader, c.write_many.new.writer) c.write_many.new.out.items in
    rw why (turn-cut g.E.Ends.does g.A.Answers.answers _ _ _ begun (c.loop-at.reader, c.loop-at.writer) had c.args.piece.now _ c.loop-at.out.items c.answer_some.new.out.items c.loop-at.at c.loop-at.input c.answer_some.new.input (take_rest c.args.piece.now c.loop-at.at) s
    answered.taken answered.served later b c.in_err-write_many.ensures.1)

pub loop-at-preserved : goal.loop-at-preserved
loop-at-preserved g c = record {
  within = omega (arith, c.loop-at.invariant.within, c.in_ok-answered.ensures.within, length-drop c.loop-at.at c.args.piece.now);
  few = c.in_ok-write_many.ensures.1;
  served = λ had is.
      let s = c.loop-at.invariant.served had is in
      let b = c.in_ok-answered.ensures.answers s.1.1 s.1.2 in
      let begun = held (c.args.reader.now, c.args.writer.now) c.args.out.now.items in
      let later = held (c.write_many.new.reader, c.write_many.new.writer) c.write_many.new.out.items in
      turn-on g.E.Ends.does g.A.Answers.answers _ _ _ begun (c.loop-at.reader, c.loop-at.writer) had c.args.piece.now _ c.loop-at.out.items c.answer_some.new.out.items c.loop-at.at c.loop-at.input c.answer_some.new.input (take_rest c.args.piece.now c.loop-at.at) s
      c.in_ok-answered.answered.taken c.in_ok-answered.answered.served More later c.in-More.is b c.in_ok-write_many.ensures.0;
}

pub returns-in-Broken : goal.returns-in-Broken
returns-in-Broken g c = λ had is.
    let s = c.loop-at.invariant.served had is in
    let b = c.in_ok-answered.ensures.answers s.1.1 s.1.2 in
    let taken = c.in_ok-answered.answered.taken in
    let begun = held (c.args.reader.now, c.args.writer.now) c.args.out.now.items in
    let later = held (c.write_many.new.reader, c.write_many.new.writer) c.write_many.new.out.items in
    let t = turn-on g.E.Ends.does g.A.Answers.answers _ _ _ begun (c.loop-at.reader, c.loop-at.writer) had c.args.piece.now _ c.loop-at.out.items c.answer_some.new.out.items c.loop-at.at c.loop-at.input c.answer_some.new.input (take_rest c.args.piece.now c.loop-at.at) s
    taken c.in_ok-answered.answered.served Broken later c.in-Broken.is b c.in_ok-write_many.ensures.0 in
    turn-breaks g.E.Ends.does g.A.Answers.answers _ _ begun later had c.args.piece.now _ c.answer_some.new.input t

pub returns : goal.returns
returns g c = λ had is.
    let served = c.loop-at.invariant.served had is in
    let whole = take_all c.loop-at.at c.args.piece.now (omega (arith, c.loop-at-test.false)) in
    (served.0, rw whole at served.1, served.2)

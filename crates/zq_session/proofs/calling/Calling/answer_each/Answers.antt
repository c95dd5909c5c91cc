use Rattle.std.proofs.Common.{refl}
use Rattle.zq_session.proofs.FurtherAnswers.{command_answers}
use Rattle.zq_session.proofs.calling.Calling.answer_each.Goals as goal

pub returns-in-Ok : goal.returns-in-Ok
returns-in-Ok g c = record {
  answered = command_answers c.args.request.now c.in-Ok.command _ _ c.run.result c.in-Ok.ensures c.run.ensures.ran;
  further = refl;
  writable = c.run.ensures.writable;
}

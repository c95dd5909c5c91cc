use Rattle.std.proofs.Common.{refl}
use Rattle.zq_session.proofs.FurtherAnswers.{refusal_answers}
use Rattle.zq_session.proofs.calling.Calling.answer_refused.Goals as goal

pub returns-in_default : goal.returns-in_default
returns-in_default g c = record {
  answered = refusal_answers c.args.request.now c.args.refused _ c.reply.result c.in_default.not-Unknown c.requires c.reply.ensures.bytes;
  further = refl;
  writable = c.reply.ensures.writable;
}

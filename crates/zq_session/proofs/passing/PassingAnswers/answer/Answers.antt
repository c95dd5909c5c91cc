use Rattle.zq_session.proofs.Refused.{refusal_passes, refusal_read}
use Rattle.zq_words.specs.Command.{command_of}
use Rattle.zq_session.proofs.passing.PassingAnswers.answer.Goals as goal

pub returns-in-Err-clause-related : goal.returns-in-Err-clause-related
returns-in-Err-clause-related g c = refusal_passes _ _ _ (refusal_read c.in-Err.refused (command_of c.args.request.now) _ c.in-Err.ensures c.reply.ensures.bytes)

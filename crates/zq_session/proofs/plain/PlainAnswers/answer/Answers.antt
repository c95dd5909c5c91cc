use Rattle.std.proofs.Common.{subst, sym}
use Rattle.zq_resp.specs.Reply.{reply_bytes}
use Rattle.zq_session.proofs.PlainBooks.{refusal_runs}
use Rattle.zq_session.proofs.Refused.{refusal_read}
use Rattle.zq_session.specs.Plain.{RunsReading}
use Rattle.zq_words.specs.Command.{command_of}
use Rattle.zq_session.proofs.plain.PlainAnswers.answer.Goals as goal

pub returns-in-Ok-clause-related : goal.returns-in-Ok-clause-related
returns-in-Ok-clause-related c = subst (λ r. RunsReading c.args.self.now r c.run.new.self (reply_bytes c.run.result)) (sym c.in-Ok.ensures) c.run.ensures.ran

pub returns-in-Err-clause-related : goal.returns-in-Err-clause-related
returns-in-Err-clause-related c = refusal_runs _ c.args.self.now _ (refusal_read c.in-Err.refused (command_of c.args.request.now) _ c.in-Err.ensures c.reply.ensures.bytes)

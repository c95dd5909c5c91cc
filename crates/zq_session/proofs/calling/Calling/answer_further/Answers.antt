use Rattle.std.proofs.Common.{refl}
use Rattle.zq_session.proofs.FurtherAnswers.{asked_answers, refused_answers, unknown_answers}
use Rattle.zq_words.specs.Calls.{call_shown}
use Rattle.zq_session.proofs.calling.Calling.answer_further.Goals as goal

pub returns-in-Ok-Some : goal.returns-in-Ok-Some
returns-in-Ok-Some g c = record {
  answered = asked_answers c.args.request.now (call_shown c.in-Ok-Some.call) _ _ c.ask.result (rw c.in-Ok-Some.field-0-is at c.in-Ok-Some.ensures.call) c.ask.ensures.asked;
  further = refl;
  writable = c.ask.ensures.writable;
}

pub returns-in-Ok-None : goal.returns-in-Ok-None
returns-in-Ok-None g c = record {
  answered = unknown_answers c.args.request.now _ c.reply.result (rw c.in-Ok-None.field-0-is at c.in-Ok-None.ensures.call) c.requires c.reply.ensures.bytes;
  further = refl;
  writable = c.reply.ensures.writable;
}

pub returns-in-Err : goal.returns-in-Err
returns-in-Err g c = record {
  answered = refused_answers c.args.request.now c.in-Err.refused _ c.reply-in-Err.result c.in-Err.ensures.call c.reply-in-Err.ensures.bytes;
  further = refl;
  writable = c.reply-in-Err.ensures.writable;
}

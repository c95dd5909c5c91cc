use Rattle.zq_session.proofs.AnsweredPart.{into-lacks, into-one, one-reply}
use Rattle.zq_session.proofs.answering.answer_into.Goals as goal

pub returns-clause-answered : goal.returns-clause-answered
returns-clause-answered g c = into-one g.A.Answers.answers _ _ _ _ _ _ _ c.answer-reply.ensures.related c.put_reply.ensures.put

pub returns-clause-one : goal.returns-clause-one
returns-clause-one g c = one-reply _ _ c.answer-reply.result _ c.put_reply.ensures.put

pub returns-clause-full : goal.returns-clause-full
returns-clause-full g c = into-lacks g.A.Answers.answers _ _ c.args.out.now _ _ c.answer-reply.result c.put_reply.result c.answer-reply.ensures.related c.put_reply.ensures.put c.put_reply.ensures.full

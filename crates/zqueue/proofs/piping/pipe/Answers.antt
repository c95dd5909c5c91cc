use Rattle.std.proofs.Common.{[], inl, inr, refl, subst}
use Rattle.zq_session.proofs.KnownBytes.{appends-none, consumes-none}
use Rattle.zq_session.specs.Plain.{AnswersByPlan}
use Rattle.zq_session.specs.Session.{Serves}
use Rattle.zqueue.proofs.piping.pipe.Goals as goal

pub returns-in_default-clause-serves : goal.returns-in_default-clause-serves
returns-in_default-clause-serves g c = ([], [], consumes-none _, appends-none _, inr (refl, refl, c.status.ensures))

pub returns-clause-serves : goal.returns-clause-serves
returns-clause-serves g c =
    let served = c.session-ended.ensures.serves in
    let ended = c.session-ended.result in (
      served.0,
      served.1,
      served.2,
      served.3,
      inl record {
        last = c.session-ended.new.answerer;
        ended = ended;
        serves = subst (λ first. Serves AnswersByPlan first c.session-ended.new.answerer served.0 served.1 ended) c.in-Ok.ensures served.4;
        status = c.status-2.ensures;
      },
    )

use Rattle.std.proofs.Common.{None, Some, ap, if◌then◌else◌, refl, subst, ◌∙◌}
use Rattle.zq_client.specs.Answered.{AnswersItself}
use Rattle.zq_client.specs.Clients.{Client}
use Rattle.zq_serve.proofs.knowing.Knowing.ask.Goals as goal
use Rattle.zq_serve.specs.Callers.{Caller, queue_in, resting, watching_in}
use Rattle.zq_serve.specs.Controls.{is_reset}
use Rattle.zq_serve.specs.Desks.{left_by}

pub returns-in-Some-clause-related : goal.returns-in-Some-clause-related
returns-in-Some-clause-related g c =
    let client = c.answer-answered.new.self in
    let words = c.args.request.now in
    let seen = ap (λ (b : Caller). b.client) c.caller.view_is in
    let left = c.forget.ensures ∙ ap (λ is. if is then resting client else record { client = client; watching = watching_in c.caller.inside.begun; queue = queue_in c.caller.inside.begun }) (c.is_reset.ensures ∙ ap is_reset c.words.ensures.words)
    ∙ ap (λ (b : Caller). left_by words client b) c.caller.view_is in (
      c.moment-moment.result,
      Some c.in-Some.reply,
      client,
      subst (λ (b : Client). AnswersItself c.args.desk.now.profile c.moment-moment.result b words (Some c.in-Some.reply) client) seen c.in-Some.ensures.answers,
      left,
      (refl, refl),
    )

pub returns-in-None-clause-related : goal.returns-in-None-clause-related
returns-in-None-clause-related g c =
    let client = c.answer-answered.new.self in
    let words = c.args.request.now in
    let seen = ap (λ (b : Caller). b.client) c.caller.view_is in
    let left = c.forget.ensures ∙ ap (λ is. if is then resting client else record { client = client; watching = watching_in c.caller.inside.begun; queue = queue_in c.caller.inside.begun }) (c.is_reset.ensures ∙ ap is_reset c.words.ensures.words)
    ∙ ap (λ (b : Caller). left_by words client b) c.caller.view_is in (
      c.moment-moment.result,
      None,
      client,
      subst (λ (b : Client). AnswersItself c.args.desk.now.profile c.moment-moment.result b words None client) seen c.in-None.ensures.answers,
      left,
      c.answer.ensures.related,
    )

use Rattle.std.proofs.Common.{◌∙◌, ◌≡◌, None, Some, ap, arith, subst, sym}
use Rattle.std.proofs.lemmas.List.{set-get_or}
use Rattle.std.proofs.lemmas.Option.{slice_get-get_or}
use Rattle.std.specs.Prelude.{slice_get}
use Rattle.zq_loop.proofs.Living.{turn-none}
use Rattle.zq_loop.specs.Attending.{attended}
use Rattle.zq_loop.specs.Life.{IsTurn, moment}
use Rattle.zq_loop.proofs.TurnByTurn.{meanwhile-others, turned}
use Rattle.zq_loop.proofs.turns.serve_at.Goals as goal

pub returns-in-Some-clause-turned : goal.returns-in-Some-clause-turned
returns-in-Some-clause-turned g c =
    let others = g.A.Attends.others in
    let answers = g.A.Attends.answers in
    let clients = c.args.clients.now in
    let place = c.args.place in
    let there : slice_get clients place ≡ Some (Some c.in-Some.client) =
    slice_get-get_or clients place c.index-clients-place.result (omega (arith, c.if-place-clients.false)) ∙ ap Some c.in-Some.is in record {
      served = λ begun all.
          let was = all place c.in-Some.client there in
          turned g.S.Socket.does others answers clients place c.in-Some.client c.serve.new.self begun c.args.attending.now.answerer c.serve.new.attending.answerer there
          (meanwhile-others g.S.Socket.does others answers c.requires.others _ _ (c.serve.ensures.requests was.0.0 (attended was.0.1 None) was.2))
          (λ began. c.serve.ensures.served began.0 (attended began.1 None)) all;
      requests = λ begun all.
          let was = all place c.in-Some.client there in
          c.serve.ensures.requests was.0.0 (attended was.0.1 None) was.2;
    }

pub returns-in_default-clause-turned : goal.returns-in_default-clause-turned
returns-in_default-clause-turned g c =
    let does = g.S.Socket.does in
    let others = g.A.Attends.others in
    let answers = g.A.Attends.answers in
    let clients = c.args.clients.now in
    let now = moment c.args.attending.now.answerer clients in
    subst (λ l. IsTurn does others answers now (moment c.args.attending.now.answerer l)) (sym (set-get_or clients c.args.place c.index-clients-place.result)) (turn-none does others answers now)

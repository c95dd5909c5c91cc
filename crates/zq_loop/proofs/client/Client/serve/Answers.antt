use Rattle.std.proofs.Common.{Option, subst, sym}
use Rattle.zq_loop.proofs.TurnByTurn.{meanwhile-asked}
use Rattle.zq_loop.proofs.client.Client.serve.Goals as goal
use Rattle.zq_loop.specs.Attending.{attended, beside, on_pairs}
use Rattle.zq_loop.specs.Client.{IsServedAt}

pub returns-clause-served : goal.returns-clause-served
returns-clause-served g c = λ first begun p.
    let others = beside {C = g.row.C.Denot} g.A.Attends.others in
    let answers = on_pairs g.A.Attends.answers in
    let before = subst (λ (own : Option g.row.C.Denot). IsServedAt g.S.Socket.does others answers first begun (attended c.args.attending.now.answerer own) c.args.self.now.socket c.args.self.now.connection) (sym c.swap.ensures.y_after) p in
    subst (λ (own : Option g.row.C.Denot). IsServedAt g.S.Socket.does others answers first begun (attended c.serve_and_close.new.attending.answerer own) c.serve_and_close.new.self.socket c.serve_and_close.new.self.connection)
    (sym c.swap-2.ensures.x_after) (c.serve_and_close.ensures.served first begun before)

pub returns-clause-requests : goal.returns-clause-requests
returns-clause-requests g c = λ first begun p.
    let others = beside {C = g.row.C.Denot} g.A.Attends.others in
    let answers = on_pairs g.A.Attends.answers in
    let before = subst (λ (own : Option g.row.C.Denot). IsServedAt g.S.Socket.does others answers first begun (attended c.args.attending.now.answerer own) c.args.self.now.socket c.args.self.now.connection) (sym c.swap.ensures.y_after) p in
    meanwhile-asked g.S.Socket.does g.A.Attends.others g.A.Attends.answers _ _ (c.serve_and_close.ensures.requests first begun before)

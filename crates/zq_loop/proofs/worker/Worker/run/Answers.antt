use Rattle.mio.specs.declared.net.stream.TcpStream.{TcpStream}
use Rattle.std.proofs.Common.{◌≡◌, List, Option, ap, subst}
use Rattle.zq_loop.proofs.Living.{lives-join, lives-rest}
use Rattle.zq_loop.proofs.worker.Worker.run.Goals as goal
use Rattle.zq_loop.proofs.worker.Worker.run.Goals.{in-None, in-Some+else-is_done+then-not-wait, in-Some+then-is_done}
use Rattle.zq_loop.specs.Life.{Rests}
use Rattle.zq_loop.specs.declared.client.Client.{Client}
use Rattle.zq_session.specs.Steps.{Does}

pub loop-preserved-then-now-swept : goal.loop-preserved-then-now-swept
loop-preserved-then-now-swept g c =
    let does : Does TcpStream = λ _ _ _. Unit {0} in
    let others = g.A.Attends.others in
    let answers = g.A.Attends.answers in
    let later = c.turn.new.attending.answerer in
    let ends = lives-join does others answers _ _ _ (lives-rest does others answers later _ _ c.relieve.ensures) (lives-rest does others answers later _ _ c.sweep.ensures) in
    let turned = lives-join does others answers _ _ _ c.turn.ensures.lives ends in
    let whole = lives-join does others answers _ _ _ (lives-rest does others answers c.loop.attending.answerer _ _ c.prepare.ensures) turned in
    lives-join does others answers _ _ _ c.loop.invariant whole

pub loop-preserved : goal.loop-preserved
loop-preserved g c =
    let does : Does TcpStream = λ _ _ _. Unit {0} in
    let others = g.A.Attends.others in
    let answers = g.A.Attends.answers in
    let turned = lives-join does others answers _ _ _ c.turn.ensures.lives (lives-rest does others answers c.turn.new.attending.answerer _ _ c.relieve.ensures) in
    let whole = lives-join does others answers _ _ _ (lives-rest does others answers c.loop.attending.answerer _ _ c.prepare.ensures) turned in
    lives-join does others answers _ _ _ c.loop.invariant whole

pub returns : goal.returns
returns g c =
    let does : Does TcpStream = λ _ _ _. Unit {0} in
    let others = g.A.Attends.others in
    let answers = g.A.Attends.answers in
    let kept : c.match-next.self.clients.items ≡ c.loop.self.clients.items = elim c.match-next.branch [ in-None w ↦ ap (λ s. s.clients.items) w.self-is | in-Some+then-is_done w ↦ ap (λ s. s.clients.items) w.self-is | in-Some+else-is_done+then-not-wait w ↦ ap (λ s. s.clients.items) w.self-is ] in
    let closed = subst (λ (clients : List (Option (Client TcpStream g.row.C.Denot))). Rests clients c.close_all.new.self.clients.items) kept c.close_all.ensures.rests in
    lives-join does others answers _ _ _ c.loop.invariant (lives-rest does others answers c.loop.attending.answerer _ _ closed)

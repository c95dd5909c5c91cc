use Rattle.mio.specs.declared.net.stream.TcpStream.{TcpStream}
use Rattle.zq_loop.proofs.Living.{lives-join, lives-rest, lives-turn}
use Rattle.zq_loop.proofs.worker.Worker.turn.Goals as goal
use Rattle.zq_session.specs.Steps.{Does}

pub returns-clause-lives : goal.returns-clause-lives
returns-clause-lives g c =
    let does : Does TcpStream = λ _ _ _. Unit {0} in
    let others = g.A.Attends.others in
    let answers = g.A.Attends.answers in
    lives-join does others answers _ _ _ (lives-turn does others answers _ _ c.turn_of.ensures) (lives-rest does others answers c.turn_of.new.attending.answerer _ _ c.look_after_all.ensures)

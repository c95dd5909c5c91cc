use Rattle.mio.specs.declared.net.stream.TcpStream.{TcpStream}
use Rattle.std.proofs.Common.{subst, []}
use Rattle.zq_loop.proofs.Living.{lives-served, served-none}
use Rattle.zq_loop.proofs.poller.Poller.run.Goals as goal
use Rattle.zq_loop.specs.Life.{Lives, moment}
use Rattle.zq_session.specs.Steps.{Does}

pub returns-in-Some : goal.returns-in-Some
returns-in-Some g c =
    let does : Does TcpStream = λ _ _ _. Unit {0} in
    let others = g.A.Attends.others in
    let answers = g.A.Attends.answers in
    let last = moment c.run.new.attending.answerer c.run.new.self.clients.items in
    let lives = subst (λ l. Lives does others answers (moment c.args.attending.now.answerer l) last) c.new.ensures c.run.ensures in
    (lives-served does others answers (moment c.args.attending.now.answerer []) last lives (served-none does others answers c.args.attending.now.answerer)).1

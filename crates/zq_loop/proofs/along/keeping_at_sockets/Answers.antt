use Rattle.zq_loop.proofs.AtSocket.{served-first, served-others, served-written}
use Rattle.zq_loop.proofs.along.keeping_at_sockets.Goals as goal

pub returns : goal.returns
returns g c =
    let does = g.S.Socket.does in
    let others = g.A.Answers.others in
    let answers = g.A.Answers.answers in record {
      begins = served-first does others answers;
      others = served-others does others answers;
      writes = served-written does others answers;
    }

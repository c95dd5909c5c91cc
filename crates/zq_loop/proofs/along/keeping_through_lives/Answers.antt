use Rattle.zq_loop.proofs.Living.{lives-served, served-none}
use Rattle.zq_loop.proofs.along.keeping_through_lives.Goals as goal

pub returns : goal.returns
returns g c =
    let does = g.S.Socket.does in
    let others = g.A.Attends.others in
    let answers = g.A.Attends.answers in record {
      begins = served-none does others answers;
      served = λ old new lives served. (lives-served does others answers old new lives served).0;
      requests = λ old new lives served. (lives-served does others answers old new lives served).1;
    }

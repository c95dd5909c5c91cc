use Rattle.zq_session.proofs.Connections.{along-closed, along-ended, along-first, along-others, along-stops, along-written}
use Rattle.zq_session.proofs.along.keeping.Goals as goal

pub returns : goal.returns
returns g c =
    let others = g.A.Answers.others in
    let answers = g.A.Answers.answers in record {
      begins = along-first others answers;
      others = along-others others answers;
      writes = along-written others answers;
      closes = along-closed others answers;
      stops = along-stops others answers;
      ends = along-ended others answers;
    }

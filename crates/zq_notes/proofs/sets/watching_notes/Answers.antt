use Rattle.zq_notes.proofs.Histories.{watches}
use Rattle.zq_notes.proofs.sets.watching_notes.Goals as goal

pub returns : goal.returns
returns c = λ rule K site W two world S opening first more n after watch calls replies key are is of asked answered had watched.
    watches rule K site W two world c.naming.ensures.score S opening first more n after watch calls replies key are is of asked answered had watched

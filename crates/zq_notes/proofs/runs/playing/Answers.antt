use Rattle.zq_notes.proofs.Plays.{plays}
use Rattle.zq_notes.proofs.runs.playing.Goals as goal

pub returns : goal.returns
returns c = record {
  plays = λ limits rule K count sites events are runnable. plays limits rule K count runnable.two c.naming.ensures.score sites events are runnable;
}

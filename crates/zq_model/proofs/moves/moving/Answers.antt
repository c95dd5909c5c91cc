use Rattle.zq_model.proofs.MadeAll.{lent_after_all, queues_after_all}
use Rattle.zq_model.proofs.QueuesAfter.{queues_after}
use Rattle.zq_model.proofs.moves.moving.Goals as goal

pub returns : goal.returns
returns c = record {
  one = λ rule K site stamp move books are below home. queues_after rule K site stamp move below books are home;
  all = queues_after_all;
  lent = lent_after_all;
}

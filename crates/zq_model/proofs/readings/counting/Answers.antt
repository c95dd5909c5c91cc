use Rattle.zq_model.proofs.Counted.{counted, measured, queue_merged}
use Rattle.zq_model.proofs.readings.counting.Goals as goal

pub returns : goal.returns
returns c = record {
  queue = queue_merged;
  count = λ rule key K passes books are. counted rule key K passes books are;
  number = λ rule key K books are. measured rule key K books are;
}

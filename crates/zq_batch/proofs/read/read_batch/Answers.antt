use Rattle.std.proofs.Common.{ap, ◌∙◌}
use Rattle.zq_batch.proofs.Batches.{batch_again, value_or_no_memory}
use Rattle.zq_batch.specs.Reading.{batch_at}
use Rattle.zq_batch.proofs.read.read_batch.Goals as goal

pub returns-clause-only : goal.returns-clause-only
returns-clause-only c heaps heap ops sound are is =
    value_or_no_memory c.args.bytes.now c.read_whole.result (batch_at c.args.bytes.now) ops c.read_whole.ensures.exact (ap batch_at is ∙ batch_again heaps heap ops sound are)

use Rattle.std.proofs.Common.{ap, ◌∙◌}
use Rattle.zq_delta.proofs.Again.{found_again}
use Rattle.zq_delta.proofs.Answered.{value_or_no_memory}
use Rattle.zq_delta.specs.Reading.{found_at}
use Rattle.zq_delta.specs.Spelling.{op_spelling}
use Rattle.std.proofs.Common.{length}
use Rattle.zq_delta.proofs.read.read_op.Goals as goal

pub returns-clause-only : goal.returns-clause-only
returns-clause-only c v o rest sound known is =
    value_or_no_memory c.read_front.result (found_at c.args.bytes.now) (o, length (op_spelling v o)) c.read_front.ensures.exact (ap found_at is ∙ found_again v o rest sound known)

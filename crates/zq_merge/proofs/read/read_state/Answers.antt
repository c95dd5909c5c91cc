use Rattle.std.proofs.Common.{ap, ◌∙◌}
use Rattle.zq_merge.proofs.AgainStates.{state_again}
use Rattle.zq_merge.proofs.Answered.{value_or_no_memory}
use Rattle.zq_merge.specs.State.{state_at}
use Rattle.zq_merge.proofs.read.read_state.Goals as goal

pub returns-clause-only : goal.returns-clause-only
returns-clause-only c v s sound has is =
    value_or_no_memory c.read_whole.result (state_at c.args.bytes.now) s c.read_whole.ensures.exact (ap state_at is ∙ state_again v s sound has)

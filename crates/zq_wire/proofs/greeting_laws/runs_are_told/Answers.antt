use Rattle.zq_wire.proofs.Numbers.{run_is_told}
use Rattle.zq_wire.proofs.greeting_laws.runs_are_told.Goals as goal

pub returns : goal.returns
returns c = run_is_told
